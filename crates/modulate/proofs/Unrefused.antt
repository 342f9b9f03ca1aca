-- What stands on the line for a cell that neither 22 nor 23 refuses. Assumes nothing.
use Prim.Native.Nat.{ℕ, ◌^◌, ◌<◌, ◌≤◌}
use mathlib.Core.Path.{◌≡◌, refl, sym, ap}
use mathlib.Core.Bool.{Bool, true, false}
use native.Mathlib.Omega.{arith}
use lib.Dec.{ltb}
use borrow.Author.Tests.{ltb-true, ltb-false}
use Rattle.counting.proofs.Bools.{by_test, conflict}
use Rattle.points.specs.Points.{point_of, load_listed}
use Rattle.scaling.specs.Scale.{scaled_point}
use Rattle.scaling.proofs.NearLaws.{scaled_23, scaled_at}
use Rattle.modulator.specs.declared.OnLine.TheVariants.{Point}
use Rattle.std.specs.Prelude.{Ok}
use Rattle.modulator.specs.Lines.{line_from, unmarked, marked, mark_line, line_of, line_answer}
use Rattle.modulator.specs.Symbols.{refused}
use Rattle.modulator.proofs.LineLaws.{below_marks, above_marks, at_marks, too_high}

-- the cell, its load and the sign of its pilot
module _ (cell m : ℕ) (minus : Bool) (e : refused (line_answer cell m minus) ≡ false) where
  pub listed : load_listed m ≡ true
  unfolding line_answer
  listed = by_test (load_listed m) (λ t. t) (λ t. absurd (conflict (refused (line_answer cell m minus)) (rw t refl) e))

  -- 23 would refuse it
  not_high : marked cell ≡ false → cell < 2 ^ m
  unfolding line_answer line_of unmarked
  not_high u =
      by_test (ltb cell (2 ^ m)) (λ t. ltb-true cell (2 ^ m) t)
      (λ t. absurd (conflict (refused (line_answer cell m minus)) (rw (listed, u, scaled_23 m cell listed (ltb-false cell (2 ^ m) t)) refl) e))

  pub value_in : cell < 0x8000 → cell < 2 ^ m
  value_in h = not_high (below_marks cell h)

  pub mark_in : 0x8000 ≤ cell → cell < 0x8005
  mark_in h =
      by_test (ltb cell 0x8005) (λ t. ltb-true cell 0x8005 t)
      (λ t. absurd (omega (arith, not_high (above_marks cell (ltb-false cell 0x8005 t)), too_high cell m listed h)))

  pub line_value : cell < 0x8000 → Ok (Point (scaled_point m (point_of m cell))) ≡ line_answer cell m minus
  unfolding line_answer line_of unmarked
  line_value h = rw (listed, below_marks cell h) (ap line_from (sym (scaled_at m cell listed (value_in h))))

  pub line_mark : 0x8000 ≤ cell → Ok (mark_line cell minus) ≡ line_answer cell m minus
  unfolding line_answer line_of
  line_mark h = rw (listed, at_marks cell h (mark_in h)) refl
