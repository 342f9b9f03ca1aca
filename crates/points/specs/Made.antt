-- A point that some value of a load makes. Assumes nothing.
use Rattle.std.specs.Prelude.{ℕ, ◌<◌, ◌^◌, ◌≡◌}
use Rattle.points.specs.declared.Point.{Point}
use Rattle.points.specs.Points.{point_of}

abbrev pub Made : ℕ → Point → Type 0
Made m p = (v : ℕ) × (v < 2 ^ m) × (point_of m v ≡ p)
