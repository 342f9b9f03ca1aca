-- `coordinates::fill_even` meets its contract. Assumes nothing.
use Rattle.coordinates.specs.Table.{Rows}
use Rattle.coordinates.proofs.fill_even.Given as goal

abbrev pub invariant-loop-n : goal.invariant-loop-n
invariant-loop-n l = Rows l.n 3 l.t
