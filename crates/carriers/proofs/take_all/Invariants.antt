-- `carriers::take_all` meets its contract. Assumes nothing.
use Prim.Native.Nat.{◌+◌, ◌≤◌}
use Rattle.carriers.specs.Listed.{Listed}
use Rattle.carriers.proofs.take_all.Given as goal

abbrev pub invariant-loop-i : goal.invariant-loop-i
invariant-loop-i l = (l.n ≤ l.k) × Listed l.mark (l.k + l.i) (l.n + l.i) l.car
