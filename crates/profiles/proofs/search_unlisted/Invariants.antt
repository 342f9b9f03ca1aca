-- `profiles::search_unlisted` meets its contract. The loop has passed k loads, all of them listed. Assumes nothing.
use mathlib.Core.Path.{◌≡◌}
use Rattle.std.specs.Prelude.{None}
use Rattle.counting.specs.Search.{lowest}
use Rattle.rules.proofs.Loads.{is_unlisted}
use Rattle.profiles.proofs.search_unlisted.Given as goal

abbrev pub invariant-loop-k : goal.invariant-loop-k
invariant-loop-k l = lowest (is_unlisted l.profile) l.k ≡ None
