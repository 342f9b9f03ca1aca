-- `lamprecord::some_bad` meets its contract. Assumes nothing.
use mathlib.Core.Path.{◌≡◌}
use Rattle.std.specs.Prelude.{None}
use Rattle.counting.specs.Search.{lowest}
use Rattle.lamprecord.specs.Record.{lamp_cap, bad_count}
use Rattle.lamprecord.proofs.some_bad.Given as goal

abbrev pub invariant-loop-x : goal.invariant-loop-x
invariant-loop-x l = lowest (bad_count lamp_cap l.counts) l.x-index ≡ None
