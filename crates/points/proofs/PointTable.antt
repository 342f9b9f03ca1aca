-- The table of ends and points (specs/Table.antt), computed. Assumes nothing.
use mathlib.Core.Path.{refl}
use Rattle.gray.specs.Gray.{gray}
use Rattle.points.specs.Points.{even_point, cross, odd_point, point_of, furthest}
use Rattle.points.specs.Table.{PointTable}

pub point_table : PointTable
unfolding gray even_point cross odd_point point_of furthest
point_table = (
  (refl, refl),
  (refl, refl),
  (refl, refl),
  (refl, refl),
  (refl, refl),
  (refl, refl),
  (refl, refl),
  (refl, refl),
  (refl, refl),
  (refl, refl),
  (refl, refl),
  (refl, refl),
)
