-- The answer of `data_count` from the verdict and ground 16. Assumes nothing.
use mathlib.Core.Path.{◌≡◌, sym, ap}
use mathlib.Core.Bool.{Bool}
use mathlib.Core.List.{List}
use Prim.Native.Nat.{ℕ, ◌≤◌, ◌<◌}
use borrow.Author.Tests.{le-leb, lt-leb}
use Rattle.counting.specs.Search.{when}
use Rattle.rules.specs.declared.Device.{Device}
use Rattle.rules.specs.declared.Refusal.{Refusal}
use Rattle.rules.specs.Refusals.{Finding, CountAnswer, refused_by}
use Rattle.std.specs.Prelude.{Ok, Err}
use Rattle.rules.specs.Plan.{plan_of}
use Rattle.rules.specs.Grounds.{ground?, verdict}
use Rattle.rules.specs.Frame.{Frame, frame_of, data_count}
use Rattle.rules.specs.Steps.{ground16, frame_count, data_count_answer}
use Rattle.verdicts.proofs.Verdicts.{no_ground, first_ground}

-- ground 16, and the count
module _ (F : Frame) (j : ℕ) where
  after16 : Bool → CountAnswer
  after16 b = elim (ground? 16 (when b 0)) [ Ok _ ↦ Ok (data_count F j) | Err r ↦ Err r ]

  pub count_late : F.phases ≤ j → refused_by 16 0 ≡ frame_count F j
  unfolding frame_count ground16 after16
  count_late l = sym (ap after16 (le-leb F.phases j l))

  pub count_is : j < F.phases → Ok (data_count F j) ≡ frame_count F j
  unfolding frame_count ground16 after16
  count_is l = sym (ap after16 (lt-leb F.phases j l))

module _ (d : Device) (s : List ℕ) (j : ℕ) where
  answered : Finding → CountAnswer
  answered f = elim f [ Ok _ ↦ frame_count (frame_of d (plan_of s)) j | Err r ↦ Err r ]

  -- refused as the verdict is, else left to ground 16
  pub count_refused : (r : Refusal) → Err r ≡ verdict d s → Err r ≡ data_count_answer d s j
  unfolding data_count_answer answered
  count_refused r e = sym (ap answered (first_ground d s r.number r.place e))

  pub count_left : (n : ℕ) → Ok n ≡ verdict d s → frame_count (frame_of d (plan_of s)) j ≡ data_count_answer d s j
  unfolding data_count_answer answered
  count_left n e = sym (ap answered (no_ground d s n e))
