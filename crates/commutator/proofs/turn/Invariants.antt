-- `commutator::turn` meets its contract. The commutator stands on line r. Assumes nothing.
use Rattle.commutator.proofs.Rounds.{Turning}
use Rattle.commutator.proofs.turn.Given as goal

abbrev pub invariant-loop-r : goal.invariant-loop-r
invariant-loop-r l = Turning l.j l.m l.q l.initial.store l.initial.cells l.store l.cells l.r l.at l.len
