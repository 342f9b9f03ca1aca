-- `lamp::cells_at` meets its contract. Assumes nothing.
use lib.ListN.{get_or}
use Rattle.counting.proofs.Lists.{Laid}
use Rattle.pilots.specs.Pilots.{pilots_most}
use Rattle.lamp.proofs.cells_at.Given as goal

abbrev pub invariant-loop-i : goal.invariant-loop-i
invariant-loop-i l = Laid (λ q. get_or l.symbol (get_or l.list q 0) 0) pilots_most l.i l.cells
