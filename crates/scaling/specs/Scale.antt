-- Scaled points (source document 000, Table XX-1, with request 04): the stored factors, and what the scaling entries answer. Assumes
-- nothing.
use Rattle.std.specs.Prelude.{ℕ, ◌-◌, Bool, true, ◌&&◌, List, [], ◌∷◌, get_or, ℤ, Float, Result, Ok, Err}
use Rattle.std.specs.Float.{nan, binary32}
use Rattle.std.specs.Float.Ieee.{mul, of_int, of_bits, to_bits}
use Rattle.counting.specs.Search.{pick}
use Rattle.rules.specs.declared.Refusal.{Refusal}
use Rattle.rules.specs.Refusals.{refused_by}
use Rattle.points.specs.declared.Point.{Point}
use Rattle.points.specs.Points.{point_of, load_listed}
use Rattle.points.specs.Roots.{root}
use Rattle.points.specs.Answers.{PointAnswer, point_answer}
use Rattle.scaling.specs.declared.ScaledPoint.{ScaledPoint}
use Rattle.scaling.specs.Single.{near}

-- the table of fourteen scaling factors, by their bits: 1 over the root, for each load the nearest single (`factor_claims`)
abbrev pub factors : List Float
factors =
    of_bits binary32 0x3f800000
    ∷ of_bits binary32 0x3f3504f3
    ∷ of_bits binary32 0x3ee4f92e
    ∷ of_bits binary32 0x3ea1e89b
    ∷ of_bits binary32 0x3e64f92e
    ∷ of_bits binary32 0x3e1e01b3
    ∷ of_bits binary32 0x3de229ed
    ∷ of_bits binary32 0x3d9d130e
    ∷ of_bits binary32 0x3d617a36
    ∷ of_bits binary32 0x3d1cd80d
    ∷ of_bits binary32 0x3ce14e88
    ∷ of_bits binary32 0x3c9cc957
    ∷ of_bits binary32 0x3c6143a0
    ∷ of_bits binary32 0x3c1cc5aa
    ∷ []

-- the stored factor of a load
abbrev pub factor : ℕ → Float
factor m = get_or factors (m - 1) nan

-- the single-precision product of a whole coordinate and the load's stored factor
unfoldable pub scaled : ℕ → ℤ → Float
scaled m c = mul binary32 (of_int binary32 c) (factor m)

-- both coordinates of a point, scaled
abbrev pub scaled_point : ℕ → Point → ScaledPoint
scaled_point m p = record { x = scaled m p.x; y = scaled m p.y }

-- both coordinates of a scaled point are near those of the whole-number point
abbrev pub near_point : ℕ → Point → ScaledPoint → Bool
near_point m p s = near (root m) p.x (to_bits binary32 s.x) && near (root m) p.y (to_bits binary32 s.y)

-- the answer to which number stands under the root of a load's factor, or a refusal
abbrev pub RootAnswer : Type 0
RootAnswer = Result ℕ Refusal

-- the answer to which scaled point: the point, or a refusal
abbrev pub ScaledAnswer : Type 0
ScaledAnswer = Result ScaledPoint Refusal

-- the number under the root; 22: a load not listed, place the load
unfoldable pub root_answer : ℕ → RootAnswer
root_answer m = pick (load_listed m) (Ok (root m)) (refused_by 22 m)

-- a point scaled, or refused as the point is
abbrev pub scaled_from : ℕ → PointAnswer → ScaledAnswer
scaled_from m (Ok p) = Ok (scaled_point m p)
scaled_from m (Err r) = Err r

-- the point of a value, scaled: 22, place the load, then 23, place the value
unfoldable pub scaled_answer : ℕ → ℕ → ScaledAnswer
scaled_answer m v = scaled_from m (point_answer m v)

-- a scaled point that is answered is near the value's point
abbrev pub near_answer : ℕ → ℕ → ScaledAnswer → Bool
near_answer m v (Ok s) = near_point m (point_of m v) s
near_answer m v (Err r) = true
