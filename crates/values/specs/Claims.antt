-- What is claimed of the points of every listed load (request 04: "the way back from a point gives the one value that makes it", and a
-- coordinate's "exact value is fixed at both ends of its range"). Statements only. Assumes nothing.
use Rattle.std.specs.Prelude.{ℕ, ◌≤◌, ◌<◌, ◌^◌, ◌≡◌, ℤ, pos, nat_abs, Ok}
use Rattle.gray.specs.Gray.{signed}
use Rattle.points.specs.declared.Point.{Point}
use Rattle.points.specs.Points.{at, point_of, furthest}
use Rattle.points.specs.Made.{Made}
use Rattle.rules.specs.Refusals.{refused_by}
use Rattle.values.specs.Answers.{value_answer}

-- the claims of a load
pub record PointClaims (m : ℕ) : Type 0 where
  -- the way back from the point of a value is that value
  pub way_back : (v : ℕ) → v < 2 ^ m → value_answer m (point_of m v) ≡ Ok v
  -- a point whose way back is refused has no value
  pub no_value : (p : Point) → value_answer m p ≡ refused_by 24 0 → Made m p → ⊥
  -- different values make different points
  pub distinct : (v w : ℕ) → v < 2 ^ m → w < 2 ^ m → point_of m v ≡ point_of m w → v ≡ w
  -- no coordinate lies further out than the ends
  pub within_x : (v : ℕ) → nat_abs (point_of m v).x ≤ furthest m
  pub within_y : (v : ℕ) → nat_abs (point_of m v).y ≤ furthest m
  -- both ends are reached, that with the sign of c: by the first coordinate, and from load 2 on by either
  pub one_bit : (c : ℤ) → m ≡ 1 → Made m (at (signed c (furthest m)) (pos 0))
  pub ends_x : (c : ℤ) → (m ≡ 1 → ⊥) → Made m (at (signed c (furthest m)) (pos 1))
  pub ends_y : (c : ℤ) → (m ≡ 1 → ⊥) → Made m (at (pos 1) (signed c (furthest m)))
