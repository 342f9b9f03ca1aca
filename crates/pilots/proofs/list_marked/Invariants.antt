-- `pilots::list_marked` meets its contract. Assumes nothing.
use Prim.Native.Nat.{◌*◌}
use Rattle.pilots.specs.Marked.{Listed}
use Rattle.pilots.proofs.list_marked.Given as goal

abbrev pub invariant-loop-b : goal.invariant-loop-b
invariant-loop-b l = Listed l.marks (16 * l.b) l.n l.list
