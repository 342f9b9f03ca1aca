-- The mean square of a load's points (source document 000, 1.2 QAM Constellation Scaling: "the mean square value of all QAM constellations
-- are equal to 1.0"): before scaling it is the number under the root. Statements only. Assumes nothing.
use Rattle.std.specs.Prelude.{ℕ, ◌+◌, ◌*◌, ◌^◌, ◌≡◌, true, nat_abs}
use Rattle.counting.specs.Search.{sum}
use Rattle.points.specs.declared.Point.{Point}
use Rattle.points.specs.Points.{point_of, load_listed}
use Rattle.points.specs.Roots.{root}

-- x x + y y
abbrev pub square_of : Point → ℕ
square_of p = nat_abs p.x * nat_abs p.x + nat_abs p.y * nat_abs p.y

-- the squares of all points of m bits, added up
unfoldable pub squares : ℕ → ℕ
squares m = sum (λ v. square_of (point_of m v)) (2 ^ m)

abbrev pub SquareClaims : Type 0
SquareClaims = (m : ℕ) → load_listed m ≡ true → squares m ≡ root m * 2 ^ m
