-- `bytelamp::cells_at` meets its contract. The first i cells are read. Assumes nothing.
use lib.ListN.{get_or}
use Rattle.counting.proofs.Lists.{Laid}
use Rattle.bytecells.specs.Octets.{cells_of}
use Rattle.pilots.specs.Pilots.{pilots_most}
use Rattle.bytelamp.proofs.cells_at.Given as goal

abbrev pub invariant-loop-i : goal.invariant-loop-i
invariant-loop-i l = Laid (λ q. get_or (cells_of l.symbol) (get_or l.fn.list q 0) 0) pilots_most l.i l.cells
