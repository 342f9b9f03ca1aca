-- `delay::pass` meets its contract. The next group begins with cell p, if there is such a cell. Assumes nothing.
use Prim.Native.Nat.{min}
use Rattle.delay.proofs.Passing.{Passing}
use Rattle.delay.proofs.pass.Given as goal

abbrev pub invariant-loop-p : goal.invariant-loop-p
invariant-loop-p l = Passing l.emitter l.m l.initial.store l.initial.cells l.store l.cells (min l.p l.n) l.at l.last
