-- `coordinates::fill_odd` meets its contract. Assumes nothing.
use Rattle.coordinates.specs.Table.{Rows}
use Rattle.coordinates.proofs.fill_odd.Given as goal

abbrev pub invariant-loop-n : goal.invariant-loop-n
invariant-loop-n l = Rows 8 l.n l.t
