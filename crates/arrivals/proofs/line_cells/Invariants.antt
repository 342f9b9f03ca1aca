-- `arrivals::line_cells` meets its contract. The loop has taken the cells below p. Assumes nothing.
use lib.ListN.{length, get_or}
use Rattle.counting.proofs.Lists.{Laid}
use Rattle.arrivals.proofs.line_cells.Given as goal

abbrev pub invariant-loop-p : goal.invariant-loop-p
invariant-loop-p l = Laid (λ q. get_or l.symbol (get_or l.kc q 0) 0) (length l.initial.x) l.p l.x
