-- `coordinates::fill_upper` meets its contract. Assumes nothing.
use lib.IntN.{pos}
use Rattle.gray.specs.Gray.{gray}
use Rattle.points.specs.Points.{cross}
use Rattle.coordinates.specs.Table.{times, Written}
use Rattle.coordinates.proofs.fill_upper.Given as goal

abbrev pub invariant-loop-k : goal.invariant-loop-k
invariant-loop-k l = Written l.initial.t l.at l.k (λ x. times l.f (cross l.s (gray l.bits x) (pos l.q)).x) l.t
