-- `carriers::take_some` meets its contract. Assumes nothing.
use Prim.Native.Nat.{◌≤◌}
use Rattle.carriers.specs.Listed.{Listed}
use Rattle.carriers.proofs.take_some.Given as goal

abbrev pub invariant-loop-k : goal.invariant-loop-k
invariant-loop-k l = (l.m ≤ l.k) × Listed l.mark l.k l.m l.car
