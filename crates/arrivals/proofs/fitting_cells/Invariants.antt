-- `arrivals::fitting_cells` meets its contract. The loop has counted among the first k cells. Assumes nothing.
use mathlib.Core.Path.{◌≡◌}
use Rattle.counting.specs.Search.{count}
use Rattle.arrivals.specs.Expected.{allowed_at}
use Rattle.arrivals.proofs.fitting_cells.Given as goal

abbrev pub invariant-loop-k : goal.invariant-loop-k
invariant-loop-k l = l.n ≡ count (allowed_at l.limits l.marks l.symbol) l.k
