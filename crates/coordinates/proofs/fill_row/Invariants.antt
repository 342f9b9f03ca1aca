-- `coordinates::fill_row` meets its contract. Assumes nothing.
use Rattle.gray.specs.Gray.{gray}
use Rattle.coordinates.specs.Table.{times, Written}
use Rattle.coordinates.proofs.fill_row.Given as goal

abbrev pub invariant-loop-i : goal.invariant-loop-i
invariant-loop-i l = Written l.initial.t l.at l.i (λ x. times l.f (gray l.bits x)) l.t
