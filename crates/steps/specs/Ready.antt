-- What the steps rely on once a plan is accepted. Assumes nothing.
use Rattle.std.specs.Prelude.{◌≡◌, List, ℕ, ◌≤◌, ◌<◌, get_or, Ok, Err}
use Rattle.rules.specs.declared.Device.{Device}
use Rattle.rules.specs.Refusals.{CountAnswer}
use Rattle.rules.specs.Device.{phases}
use Rattle.rules.specs.Fits.{Fits}
use Rattle.rules.specs.Plan.{plan_of}
use Rattle.counting.specs.Search.{bit}
use Rattle.rules.specs.Grounds.{grounds1to15, ◌else◌}
use Rattle.rules.specs.Frame.{Frame, frame_of, cells, carrier, spot, held, data_count}
use Rattle.rules.specs.Steps.{ground16, ground17}
use Rattle.verdicts.specs.Studied.{Studied}

-- the device fits, no ground of 1 to 15 refuses the plan, its depth is 1 to 128, n is N_I, and m holds the marks
pub record Ready (d : Device) (s : List ℕ) (n : ℕ) (m : List ℕ) : Type 0 where
  pub fits : Fits d
  pub fine : grounds1to15 d s ≡ Ok tt
  pub deep : 0 < (plan_of s).depth
  pub shallow : (plan_of s).depth ≤ phases
  pub all : n ≡ cells (frame_of d (plan_of s))
  pub studied : Studied d s m

-- the first of grounds 16 and 17 of what a step is given, whose store needs so many places, or N_D at phase j
unfoldable pub ready_answer : Frame → ℕ → ℕ → List ℕ → List ℕ → ℕ → CountAnswer
ready_answer F phase places s y j = elim (ground16 F phase else ground17 F places s y) [ Ok _ ↦ Ok (data_count F j) | Err r ↦ Err r ]

-- what a step has made of a plan for the input symbol at phase j: the subcarriers by rank and by cell, and the flags of the placeholders
pub record Made (F : Frame) (j : ℕ) (car kc flag : List ℕ) : Type 0 where
  pub ranks : (i : ℕ) → i < cells F → get_or car i 0 ≡ carrier F i
  pub spots : (p : ℕ) → p < cells F → get_or kc p 0 ≡ spot F p
  pub flags : (p : ℕ) → p < cells F → get_or flag p 0 ≡ bit (held F j p)

-- the same, where no ground was found
abbrev pub MadeIf : CountAnswer → Frame → ℕ → List ℕ → List ℕ → List ℕ → Type 0
MadeIf (Ok n) F j car kc flag = Made F j car kc flag
MadeIf (Err r) F j car kc flag = Unit {0}
