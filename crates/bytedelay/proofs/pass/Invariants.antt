-- `bytedelay::pass` meets its contract. The next group begins with cell p, if there is one. Assumes nothing.
use Prim.Native.Nat.{ℕ}
use Rattle.bytecells.specs.Octets.{cells_of, Whole}
use Rattle.delay.specs.Shift.{Least}
use Rattle.delay.proofs.Passing.{Passing}
use Rattle.bytedelay.proofs.pass.Given as goal

abbrev pub invariant-loop-p : goal.invariant-loop-p
invariant-loop-p l = ((q : ℕ) → Least l.p l.n q → Passing l.emitter l.m (cells_of l.initial.store) l.initial.cells (cells_of l.store) l.cells q l.at l.last) × Whole l.store
