-- `datalimit::search_over` meets its contract. The numbers of the first p cells are within their limits. Assumes nothing.
use mathlib.Core.Path.{◌≡◌}
use Rattle.std.specs.Prelude.{None}
use lib.ListN.{length}
use Rattle.counting.specs.Search.{count, lowest, is_zero}
use Rattle.datalimit.specs.Over.{over_at}
use Rattle.datalimit.proofs.search_over.Given as goal

abbrev pub invariant-loop-p : goal.invariant-loop-p
invariant-loop-p l = (l.i ≡ count (is_zero l.flag) l.p) × (lowest (over_at l.profile l.kc l.flag (length l.x) l.ds) l.i ≡ None)
