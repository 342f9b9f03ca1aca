-- What is claimed of the five marks of document 01 on the line (request 04: "Filler is silent", "±2 is exact"), the pilots by their bits, and of
-- the cells that a load profile allows (request 07). Statements only. Assumes nothing.
use Rattle.std.specs.Prelude.{ℕ, ◌≤◌, ◌<◌, ◌≡◌, Bool, true, false, List, map, get_or, Ok, None}
use Rattle.std.specs.Float.{binary32}
use Rattle.std.specs.Float.Ieee.{of_bits}
use Rattle.rules.specs.Refusals.{refused_by}
use Rattle.rules.specs.declared.Role.{Role}
use Rattle.rules.specs.Frame.{fits_role}
use Rattle.rules.specs.Loads.{profile_load, ground25, point_load, load_limit, limit_at}
use Rattle.points.specs.Points.{point_of, load_listed}
use Rattle.scaling.specs.Scale.{scaled_point}
use Rattle.modulator.specs.declared.OnLine.TheVariants.{Silent, Open, Point, Pilot}
use Rattle.modulator.specs.Lines.{marked, mark_line, line_answer}
use Rattle.modulator.specs.Symbols.{line_refusal}

-- the claims of a load: 0x40000000 are the bits of 2, 0xc0000000 those of -2
pub record LineClaims (m : ℕ) : Type 0 where
  pub filler : (minus : Bool) → line_answer 0x8001 m minus ≡ Ok Silent
  pub excluded : (minus : Bool) → line_answer 0x8002 m minus ≡ Ok Silent
  pub plc : (minus : Bool) → line_answer 0x8004 m minus ≡ Ok Open
  pub scattered_plus : line_answer 0x8000 m false ≡ Ok (Pilot (of_bits binary32 0x40000000))
  pub scattered_minus : line_answer 0x8000 m true ≡ Ok (Pilot (of_bits binary32 0xc0000000))
  pub continuous_plus : line_answer 0x8003 m false ≡ Ok (Pilot (of_bits binary32 0x40000000))
  pub continuous_minus : line_answer 0x8003 m true ≡ Ok (Pilot (of_bits binary32 0xc0000000))
  -- the first cell past the marks is none
  pub no_mark : (minus : Bool) → line_answer 0x8005 m minus ≡ refused_by 23 0x8005

-- the claims of the loads that a profile may hold, each given to the modulator as `point_load` of it
pub record ProfileClaims : Type 0 where
  pub listed : (load : ℕ) → profile_load load ≡ true → load_listed (point_load load) ≡ true
  -- a data cell within the limit of its load is not refused: it is the scaled point of its value
  pub cell : (load x : ℕ) (minus : Bool) → profile_load load ≡ true → x ≤ load_limit load
      → line_answer x (point_load load) minus ≡ Ok (Point (scaled_point (point_load load) (point_of (point_load load) x)))
  -- nor is a mark
  pub mark : (load x : ℕ) (minus : Bool) → profile_load load ≡ true → marked x ≡ true → line_answer x (point_load load) minus ≡ Ok (mark_line x minus)
  -- nor any subcarrier of a symbol whose cells fit their roles and the profile's limits, as all have that runs under the profile send
  pub symbol : (n : ℕ) (w y minus : List ℕ) → ground25 n w ≡ Ok tt → ((k : ℕ) → k < n → (r : Role) × (fits_role (limit_at w k) r (get_or y k 0) ≡ true))
      → line_refusal y (map point_load w) minus n ≡ None
