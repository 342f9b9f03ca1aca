-- `arrivals::search_wrong` meets its contract. The loop has passed `place` cells, all of which fit. Assumes nothing.
use mathlib.Core.Path.{◌≡◌}
use mathlib.Core.Bool.{not}
use Rattle.std.specs.Prelude.{None}
use Rattle.counting.specs.Search.{lowest}
use Rattle.arrivals.specs.Expected.{allowed_at}
use Rattle.arrivals.proofs.search_wrong.Given as goal

abbrev pub invariant-loop-place : goal.invariant-loop-place
invariant-loop-place l = lowest (λ i. not (allowed_at l.limits l.marks l.symbol i)) l.place ≡ None
