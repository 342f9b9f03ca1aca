-- `loadlimits::lowest_unadmitted` meets its contract. The loop has passed the subcarriers below k, whose cells are admitted. Assumes nothing.
use mathlib.Core.Path.{◌≡◌}
use Rattle.std.specs.Prelude.{None}
use Rattle.counting.specs.Search.{lowest}
use Rattle.loadlimits.specs.Limits.{unadmitted}
use Rattle.loadlimits.proofs.lowest_unadmitted.Given as goal

abbrev pub invariant-loop-k : goal.invariant-loop-k
invariant-loop-k l = lowest (unadmitted l.symbol l.loads) l.k ≡ None
