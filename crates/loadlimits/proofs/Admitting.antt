-- A cell is admitted where neither 22 nor 23 refuses it, whatever the sign. Assumes nothing.
use Prim.Native.Nat.{ℕ, ◌^◌, ◌<◌}
use mathlib.Core.Path.{◌≡◌, refl, sym, ap, ◌∙◌}
use mathlib.Core.Bool.{Bool, true, false, not}
use mathlib.Core.List.{List}
use native.Mathlib.Omega.{arith}
use lib.Dec.{ltb}
use lib.Pow.{pow_pos}
use lib.ListN.{get_or}
use borrow.Author.Tests.{not-false, ltb-true, ltb-false, lt-ltb, le-ltb}
use Rattle.counting.specs.Search.{lowest}
use Rattle.counting.proofs.Bools.{by_test, or_true, and_false}
use Rattle.counting.proofs.Searches.{lowest_ext}
use Rattle.points.specs.Points.{load_listed}
use Rattle.points.proofs.BackLaws.{at_most}
use Rattle.scaling.proofs.NearLaws.{scaled_23, scaled_at}
use Rattle.modulator.specs.Lines.{marked, unmarked, line_of, line_answer}
use Rattle.modulator.specs.Symbols.{is_minus, refused, line_at, line_refusal}
use Rattle.loadlimits.specs.Limits.{limit_of, admits, unadmitted}

pub refused_is : (cell m : ℕ) (minus : Bool) → not (admits (limit_of m) cell) ≡ refused (line_answer cell m minus)
unfolding limit_of admits line_answer line_of unmarked
refused_is cell m minus =
    by_test (load_listed m)
    (λ t.
    by_test (marked cell)
    (λ s. rw (t, s, lt-ltb 0 (2 ^ m) (pow_pos m), or_true (ltb cell (2 ^ m))) refl)
    (λ s.
    by_test (ltb cell (2 ^ m))
    (λ b. rw (t, s, b, scaled_at m cell t (ltb-true cell (2 ^ m) b)) refl)
    (λ b. rw (t, s, b, scaled_23 m cell t (ltb-false cell (2 ^ m) b), and_false (ltb 0 (2 ^ m))) refl)))
    (λ t. rw (t, le-ltb cell 0 (omega arith)) refl)

-- what is admitted is not refused
pub unrefused : (cell m : ℕ) (minus : Bool) → admits (limit_of m) cell ≡ true → refused (line_answer cell m minus) ≡ false
unrefused cell m minus t = sym (refused_is cell m minus) ∙ ap not t

pub admitted_at : (symbol loads : List ℕ) (k : ℕ) → unadmitted symbol loads k ≡ false → admits (limit_of (get_or loads k 0)) (get_or symbol k 0) ≡ true
unfolding unadmitted
admitted_at symbol loads k f = not-false (admits (limit_of (get_or loads k 0)) (get_or symbol k 0)) f

-- no load past 14 is listed
pub limit_past : (m : ℕ) → 14 < m → limit_of m ≡ 0
unfolding limit_of
limit_past m h = by_test (load_listed m) (λ t. absurd (omega (arith, at_most m t))) (λ t. rw t refl)

-- so the lowest that is not admitted is the lowest that is refused
pub refusal_is : (symbol loads minus : List ℕ) (n : ℕ) → lowest (unadmitted symbol loads) n ≡ line_refusal symbol loads minus n
unfolding unadmitted line_at
refusal_is symbol loads minus n =
    lowest_ext (unadmitted symbol loads) (λ k. refused (line_at symbol loads minus k)) n
    (λ k h. refused_is (get_or symbol k 0) (get_or loads k 0) (is_minus (get_or minus k 0)))
