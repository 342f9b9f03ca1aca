-- `pilots::list_block` meets its contract. Assumes nothing.
use Rattle.pilots.specs.Marked.{Listed}
use Rattle.pilots.proofs.list_block.Given as goal

abbrev pub invariant-loop-i : goal.invariant-loop-i
invariant-loop-i l = Listed l.marks l.i l.m l.list
