-- What stands on the line, ground by ground and mark by mark; every point there is near the cell's point. Assumes nothing.
use Prim.Native.Nat.{ℕ, ◌+◌, ◌-◌, ◌^◌, ◌<◌, ◌≤◌}
use mathlib.Core.Path.{◌≡◌, refl, ◌∙◌, subst}
use mathlib.Core.Bool.{Bool, true, false, ◌||◌}
use native.Mathlib.Omega.{arith}
use lib.Dec.{eqb}
use lib.Pow.{pow_mono}
use borrow.Author.Tests.{ne_eqb}
use Rattle.counting.proofs.Bools.{by_test, conflict}
use Rattle.gray.proofs.Computed.{below}
use Rattle.rules.specs.Roles.{excluded_mark, continuous_mark, plc_mark}
use Rattle.rules.specs.Frame.{placeholder, filler}
use Rattle.points.specs.Points.{load_listed}
use Rattle.points.proofs.BackLaws.{at_most}
use Rattle.std.specs.Prelude.{Ok, Err}
use Rattle.scaling.specs.Scale.{ScaledAnswer, scaled_answer, near_answer}
use Rattle.scaling.proofs.Sweep.{holds}
use Rattle.scaling.proofs.NearLaws.{near_scaled}
use Rattle.modulator.specs.Lines.{line_from, unmarked, marked, mark_line, line_of, line_answer, near_line, near_line_answer}

near_on : (cell m : ℕ) (a : ScaledAnswer) → near_line_answer cell m (line_from a) ≡ near_answer m cell a
near_on cell m (Ok s) = refl
near_on cell m (Err r) = refl

pub near_unmarked : (cell m : ℕ) → near_line_answer cell m (unmarked cell m) ≡ true
unfolding unmarked
near_unmarked cell m = near_on cell m (scaled_answer m cell) ∙ near_scaled m cell

near_mark : (cell m mark : ℕ) (minus : Bool) → near_line cell m (mark_line mark minus) ≡ true
unfolding mark_line
near_mark cell m mark minus =
    by_test (eqb mark filler || eqb mark excluded_mark) (λ s. rw s refl)
    (λ s. by_test (eqb mark plc_mark) (λ o. rw (s, o) refl) (λ o. rw (s, o) refl))

pub near_line_lem : (cell m : ℕ) (minus : Bool) → near_line_answer cell m (line_answer cell m minus) ≡ true
unfolding line_answer line_of
near_line_lem cell m minus =
    by_test (load_listed m)
    (λ t. by_test (marked cell) (λ s. rw (t, s) (near_mark cell m cell minus)) (λ s. rw (t, s) (near_unmarked cell m)))
    (λ t. rw t refl)

-- ---- which cells are marks

no_mark : (cell : ℕ) → (cell ≡ placeholder → ⊥) → (cell ≡ filler → ⊥) → (cell ≡ excluded_mark → ⊥) → (cell ≡ continuous_mark → ⊥) → (cell ≡ plc_mark → ⊥) → marked cell ≡ false
unfolding marked
no_mark cell a b c d e =
    rw (ne_eqb cell placeholder a, ne_eqb cell filler b, ne_eqb cell excluded_mark c, ne_eqb cell continuous_mark d, ne_eqb cell plc_mark e) refl

pub below_marks : (cell : ℕ) → cell < 0x8000 → marked cell ≡ false
below_marks cell h = no_mark cell (λ e. omega arith) (λ e. omega arith) (λ e. omega arith) (λ e. omega arith) (λ e. omega arith)

pub above_marks : (cell : ℕ) → 0x8005 ≤ cell → marked cell ≡ false
above_marks cell h = no_mark cell (λ e. omega arith) (λ e. omega arith) (λ e. omega arith) (λ e. omega arith) (λ e. omega arith)

pub at_marks : (cell : ℕ) → 0x8000 ≤ cell → cell < 0x8005 → marked cell ≡ true
unfolding marked
at_marks cell l h =
    by_test (marked cell) (λ t. t)
    (λ f.
    let w = 0x8000 + (cell - 0x8000) in
    let e : w ≡ cell = omega arith in
    absurd (conflict (marked cell) (subst (λ (k : ℕ). marked k ≡ true) e (holds (marked w) (below (λ (k : ℕ). marked (0x8000 + k)) 5 tt (cell - 0x8000) (omega arith)))) f))

-- past the marks nothing is below 2 to a load
pub too_high : (cell m : ℕ) → load_listed m ≡ true → 0x8000 ≤ cell → 2 ^ m ≤ cell
too_high cell m t h = omega (arith, pow_mono (at_most m t))
