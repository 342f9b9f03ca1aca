-- `bytecells::read_pairs` meets its contract. The loop has read the first i numbers. Assumes nothing.
use mathlib.Core.Path.{◌≡◌}
use lib.ListN.{length, take}
use lib.Seq.{sets}
use Rattle.counting.specs.Search.{tabulate}
use Rattle.bytecells.specs.Swapped.{low_first}
use Rattle.bytecells.proofs.read_pairs.Given as goal

abbrev pub invariant-loop-i : goal.invariant-loop-i
invariant-loop-i l = l.cells ≡ sets l.initial.cells 0 (take l.i (tabulate (low_first l.b) (length l.initial.cells)))
