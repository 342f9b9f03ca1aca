-- What a fresh start finds before it fills the store, and what is then known. Assumes nothing.
use Rattle.std.specs.Prelude.{List, Bool, ℕ, take, Ok, Err}
use Rattle.rules.specs.declared.Device.{Device}
use Rattle.rules.specs.Refusals.{Finding, Verdict, CountAnswer}
use Rattle.rules.specs.Plan.{plan_of}
use Rattle.rules.specs.Grounds.{◌else◌, grounds1to15, answer}
use Rattle.rules.specs.Frame.{Frame, frame_of, cells}
use Rattle.rules.specs.Store.{receiver_places}
use Rattle.rules.specs.Steps.{ground16}
use Rattle.figure.specs.Needs.{places17, places27, fresh_grounds}
use Rattle.flushes.specs.Spotted.{Spotted}

-- the first of grounds 1 to 16 that holds for a start at phase j, or N_I
unfoldable pub phase_verdict : Device → List ℕ → ℕ → Verdict
phase_verdict d s j = answer (grounds1to15 d s else ground16 (frame_of d (plan_of s)) j) (cells (frame_of d (plan_of s)))

-- what a start at phase j with this store finds of grounds 1 to 17 and 27; by17 and by27 say how many places they ask for
unfoldable pub start_finding : (Frame → ℕ) → (Frame → ℕ) → Device → List ℕ → ℕ → List ℕ → Finding
start_finding by17 by27 d s j store = grounds1to15 d s else fresh_grounds (frame_of d (plan_of s)) (by17 (frame_of d (plan_of s))) (by27 (frame_of d (plan_of s))) j store

-- a fresh emitter, the first or the second, whose store is literal: the first ground that holds, or N_I
unfoldable pub emitter_verdict : Bool → Device → List ℕ → ℕ → List ℕ → Verdict
emitter_verdict literal d s j store = answer (start_finding (places17 literal) (places27 literal) d s j store) (cells (frame_of d (plan_of s)))

-- 27 asks for nothing of a receiver
abbrev pub none : Frame → ℕ
none F = 0

-- a fresh receiver: the first ground that holds, or the number of its places
unfoldable pub receiver_answer : Device → List ℕ → ℕ → List ℕ → CountAnswer
receiver_answer d s j store =
    elim (start_finding receiver_places none d s j store) [
      | Ok _ ↦ Ok (receiver_places (frame_of d (plan_of s)))
      | Err r ↦ Err r
    ]

-- where none holds, the first N_I places of kc hold the subcarriers of the cells
abbrev pub SpottedIf : Verdict → Device → List ℕ → List ℕ → Type 0
SpottedIf (Ok n) d s kc = Spotted d s (take n kc)
SpottedIf (Err r) d s kc = Unit {0}
