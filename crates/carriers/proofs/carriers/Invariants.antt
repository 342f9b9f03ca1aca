-- `carriers::carriers` meets its contract. Assumes nothing.
use Prim.Native.Nat.{◌*◌}
use Rattle.carriers.specs.Listed.{Listed}
use Rattle.carriers.proofs.carriers.Given as goal

abbrev pub invariant-loop-b : goal.invariant-loop-b
invariant-loop-b l = Listed l.mark (8 * l.b) l.n l.car
