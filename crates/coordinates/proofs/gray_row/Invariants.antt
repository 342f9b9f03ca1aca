-- `coordinates::gray_row` meets its contract. Assumes nothing.
use Rattle.coordinates.proofs.GrayTable.{Doubled}
use Rattle.coordinates.proofs.gray_row.Given as goal

abbrev pub invariant-loop-k : goal.invariant-loop-k
invariant-loop-k l = Doubled l.n l.w l.k
