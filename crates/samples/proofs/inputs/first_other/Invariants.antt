-- `samples::inputs::first_other` meets its contract. The loop has passed i cells, all as wanted. Assumes nothing.
use mathlib.Core.Path.{◌≡◌}
use Rattle.std.specs.Prelude.{None}
use Rattle.counting.specs.Search.{lowest}
use Rattle.samples.specs.Inputs.{is_other}
use Rattle.samples.proofs.inputs.first_other.Given as goal

abbrev pub invariant-loop-i : goal.invariant-loop-i
invariant-loop-i l = lowest (is_other l.start l.t l.count l.limits l.cells) l.i ≡ None
