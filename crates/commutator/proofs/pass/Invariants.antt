-- `commutator::pass` meets its contract: the store and the cells are those of the figure. The cells of q turns have gone in. Assumes nothing.
use Prim.Native.Nat.{◌*◌}
use Rattle.commutator.specs.Round.{Gone}
use Rattle.commutator.proofs.pass.Given as goal

abbrev pub invariant-loop-q : goal.invariant-loop-q
invariant-loop-q l = Gone l.j l.m l.initial.store l.initial.cells (l.q * l.m) l.store l.cells
