-- `fill::fill_data` meets its contract. The cells of the blocks below b are filled, and have used d of the data. Assumes nothing.
use Prim.Native.Nat.{◌*◌}
use mathlib.Core.Path.{◌≡◌}
use Rattle.counting.specs.Search.{count, is_zero}
use Rattle.fill.specs.Flags.{data_cell}
use Rattle.fill.proofs.Blocks.{Stored}
use Rattle.fill.proofs.fill_data.Given as goal

abbrev pub invariant-loop-b : goal.invariant-loop-b
invariant-loop-b l = (l.d ≡ count (is_zero l.flag) (16 * l.b)) × Stored l.initial.cells 0 (data_cell l.flag l.ds) l.n (16 * l.b) l.cells
