-- `fill::fill_cells` meets its contract. The loop has filled i cells, and those below cell p + i have used so many of the data. Assumes nothing.
use Prim.Native.Nat.{◌+◌}
use mathlib.Core.Path.{◌≡◌}
use Rattle.counting.specs.Search.{count, is_zero}
use Rattle.fill.specs.Flags.{data_cell}
use Rattle.fill.proofs.Blocks.{Stored}
use Rattle.fill.proofs.fill_cells.Given as goal

abbrev pub invariant-loop-i : goal.invariant-loop-i
invariant-loop-i l = (l.used ≡ count (is_zero l.flag) (l.p + l.i)) × Stored l.initial.cells l.p (λ t. data_cell l.flag l.ds (l.p + t)) l.k l.i l.cells
