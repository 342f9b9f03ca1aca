-- `loadlimits::fill_limits` meets its contract. The loop has stored the limits below `load`. Assumes nothing.
use mathlib.Core.Path.{◌≡◌}
use lib.ListN.{length}
use Rattle.counting.proofs.Stride.{Upto}
use Rattle.loadlimits.specs.Limits.{limit_of}
use Rattle.loadlimits.proofs.fill_limits.Given as goal

abbrev pub invariant-loop-load : goal.invariant-loop-load
invariant-loop-load l = (length l.limits ≡ 256) × Upto 256 l.load limit_of (λ q. 0) l.limits
