-- `points::point_table` meets its contract: the table is the law `point_table`. Assumes nothing.
use Rattle.points.proofs.PointTable.{point_table}
use Rattle.points.proofs.point_table.Goals as goal

pub returns : goal.returns
returns c = point_table
