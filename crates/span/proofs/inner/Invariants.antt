-- `span::inner` meets its contract. Assumes nothing.
use mathlib.Core.Path.{◌≡◌}
use lib.ListN.{get_or}
use Prim.Native.Nat.{◌+◌}
use Rattle.counting.specs.Search.{count}
use Rattle.rules.specs.Plan.{plan_of}
use Rattle.rules.specs.Bands.{excluded}
use Rattle.counting.specs.Runs.{before}
use Rattle.span.proofs.inner.Given as goal

abbrev pub invariant-loop-i : goal.invariant-loop-i
invariant-loop-i l = l.sum + count (excluded (plan_of l.plan)) (get_or l.hi 0 0) ≡ count (excluded (plan_of l.plan)) (before l.hi l.i)
