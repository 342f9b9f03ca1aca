-- `walk::row_after_row` meets its contract: the laws `turned_rows` and `plan_walk`, and the table. Assumes nothing.
use Rattle.walk.proofs.Walks.{turned_rows, plan_walk}
use Rattle.walk.proofs.Table.{walk_table}
use Rattle.walk.proofs.row_after_row.Goals as goal

pub returns : goal.returns
returns c = record { numbers = turned_rows; plans = plan_walk; table = walk_table }
