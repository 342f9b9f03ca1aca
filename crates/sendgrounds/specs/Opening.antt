-- Which sending steps no ground refuses, of either emitter, and what such a step has made of the plan and its data. Assumes nothing.
use Rattle.std.specs.Prelude.{◌≡◌, Bool, List, ℕ, ◌<◌, length, get_or, take, Ok, Err}
use Rattle.rules.specs.declared.Device.{Device}
use Rattle.rules.specs.Refusals.{Finding, Verdict}
use Rattle.rules.specs.Fits.{capacity}
use Rattle.rules.specs.Plan.{plan_of}
use Rattle.rules.specs.Grounds.{◌else◌, grounds1to15, answer}
use Rattle.rules.specs.Frame.{frame_of, cells, carrier, Given, input_cells}
use Rattle.rules.specs.Steps.{Emitter, Send}
use Rattle.figure.specs.Needs.{places17, places27, step_grounds}
use Rattle.steps.specs.Ready.{Ready}

-- what a step finds of grounds 1 to 15, 25 and 16 to 19, of the first emitter, or of the second, whose store is literal, with 27 after 17
unfoldable pub send_finding : Bool → Device → List ℕ → Emitter → Send → Finding
send_finding literal d s e a =
    grounds1to15 d s else step_grounds (frame_of d (plan_of s)) (places17 literal (frame_of d (plan_of s))) (places27 literal (frame_of d (plan_of s))) e a

-- the first ground that refuses a step, or N_I
unfoldable pub send_verdict : Bool → Device → List ℕ → Emitter → Send → Verdict
send_verdict literal d s e a = answer (send_finding literal d s e a) (cells (frame_of d (plan_of s)))

-- The plan is accepted, n is N_I and m holds the marks; car, of all its places, holds the subcarriers by rank, and the first n cells of x
-- are the input symbol of g at phase j.
pub record SendMade (d : Device) (s : List ℕ) (j : ℕ) (g : Given) (n : ℕ) (m car x : List ℕ) : Type 0 where
  pub ready : Ready d s n m
  pub whole : length car ≡ capacity
  pub ranks : (i : ℕ) → i < n → get_or car i 0 ≡ carrier (frame_of d (plan_of s)) i
  pub input : take n x ≡ input_cells (frame_of d (plan_of s)) j g

-- the same, where no ground was found
abbrev pub SendMadeIf : Verdict → Device → List ℕ → ℕ → Given → List ℕ → List ℕ → List ℕ → Type 0
SendMadeIf (Ok n) d s j g m car x = SendMade d s j g n m car x
SendMadeIf (Err r) d s j g m car x = Unit {0}

-- the answer r is that of a step, and what it says is made is made
abbrev pub SendOpens : Verdict → Bool → Device → List ℕ → Emitter → Send → List ℕ → List ℕ → List ℕ → Type 0
SendOpens r literal d s e a m car x = (r ≡ send_verdict literal d s e a) × SendMadeIf r d s e.state.phase a.given m car x
