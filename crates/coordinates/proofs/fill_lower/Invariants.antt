-- `coordinates::fill_lower` meets its contract. Assumes nothing.
use lib.IntN.{pos}
use Rattle.gray.specs.Gray.{gray}
use Rattle.points.specs.Points.{cross}
use Rattle.coordinates.specs.Table.{times, Written}
use Rattle.coordinates.proofs.fill_lower.Given as goal

abbrev pub invariant-loop-k : goal.invariant-loop-k
invariant-loop-k l = Written l.initial.t l.at l.k (λ x. times l.f (cross l.s (pos l.i) (gray l.bits x)).y) l.t
