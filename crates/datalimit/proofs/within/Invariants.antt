-- `datalimit::within` meets its contract. The loop has counted the numbers so far. Assumes nothing.
use mathlib.Core.Path.{◌≡◌}
use Rattle.counting.specs.Search.{count}
use Rattle.datalimit.proofs.Over.{is_within}
use Rattle.datalimit.proofs.within.Given as goal

abbrev pub invariant-loop-x : goal.invariant-loop-x
invariant-loop-x l = l.n ≡ count (is_within l.limit l.ds) l.x-index
