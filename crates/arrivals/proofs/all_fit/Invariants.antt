-- `arrivals::all_fit` meets its contract. The loop has counted among the first k cells. Assumes nothing.
use mathlib.Core.Path.{◌≡◌}
use Rattle.counting.specs.Search.{count}
use Rattle.arrivals.proofs.Expecting.{allowed_under}
use Rattle.arrivals.proofs.all_fit.Given as goal

abbrev pub invariant-loop-k : goal.invariant-loop-k
invariant-loop-k l = l.n ≡ count (allowed_under l.limit l.marks l.symbol) l.k
