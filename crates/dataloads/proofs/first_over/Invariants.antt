-- `dataloads::first_over` meets its contract. The numbers before i are within the limits of their loads. Assumes nothing.
use mathlib.Core.Path.{◌≡◌}
use Rattle.std.specs.Prelude.{None}
use lib.Dec.{ltb}
use lib.ListN.{get_or}
use Rattle.counting.specs.Search.{lowest}
use Rattle.rules.specs.Loads.{load_limit}
use Rattle.dataloads.proofs.first_over.Given as goal

abbrev pub invariant-loop-i : goal.invariant-loop-i
invariant-loop-i l = lowest (λ k. ltb (load_limit (get_or l.loads k 0)) (get_or l.ds k 0)) l.i ≡ None
