-- The claims of the five marks, computed once the load is listed. Assumes nothing.
use Prim.Native.Nat.{ℕ}
use mathlib.Core.Path.{◌≡◌, refl, ap, ◌∙◌}
use mathlib.Core.Bool.{Bool, true, false}
use native.Mathlib.Omega.{arith}
use lib.Ieee.{of_bits}
use Rattle.points.specs.Points.{load_listed}
use Rattle.scaling.proofs.NearLaws.{scaled_23}
use Rattle.rules.specs.Refusals.{refused_by}
use Rattle.modulator.specs.Lines.{line_from, unmarked, marked, mark_line, line_of, line_answer}
use Rattle.modulator.specs.Claims.{LineClaims}
use Rattle.modulator.proofs.LineLaws.{too_high}

-- of a listed load the cell decides
listed : (cell m : ℕ) (minus : Bool) → load_listed m ≡ true → line_answer cell m minus ≡ line_of cell m minus
unfolding line_answer
listed cell m minus t = rw t refl

past : (m : ℕ) (minus : Bool) → load_listed m ≡ true → line_of 0x8005 m minus ≡ refused_by 23 0x8005
unfolding line_of marked unmarked
past m minus t = ap line_from (scaled_23 m 0x8005 t (too_high 0x8005 m t (omega arith)))

pub line_claims : (m : ℕ) → load_listed m ≡ true → LineClaims m
unfolding line_of marked mark_line of_bits
line_claims m t =
    record {
      filler = λ s. listed 0x8001 m s t;
      excluded = λ s. listed 0x8002 m s t;
      plc = λ s. listed 0x8004 m s t;
      scattered_plus = listed 0x8000 m false t;
      scattered_minus = listed 0x8000 m true t;
      continuous_plus = listed 0x8003 m false t;
      continuous_minus = listed 0x8003 m true t;
      no_mark = λ s. listed 0x8005 m s t ∙ past m s t;
    }
