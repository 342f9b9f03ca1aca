-- `profiles::limits` meets its contract. The first k subcarriers have their limits. Assumes nothing.
use lib.ListN.{length}
use Rattle.counting.proofs.Lists.{Laid}
use Rattle.rules.specs.Loads.{limit_at}
use Rattle.profiles.proofs.limits.Given as goal

abbrev pub invariant-loop-k : goal.invariant-loop-k
invariant-loop-k l = Laid (limit_at l.profile) (length l.initial.limits) l.k l.limits
