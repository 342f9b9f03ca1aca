-- `bytecells::swap_cells` meets its contract. The first cells are swapped, the others as they were. Assumes nothing.
use Prim.Native.Nat.{ℕ}
use mathlib.Core.Path.{◌≡◌}
use mathlib.Core.List.{List}
use lib.ListN.{length, take, get_or}
use lib.Seq.{sets}
use Rattle.counting.specs.Search.{tabulate}
use Rattle.bytecells.specs.Swapped.{swapped}
use Rattle.bytecells.proofs.swap_cells.Given as goal

-- the cells swapped
abbrev pub whole : List ℕ → List ℕ
whole cells = tabulate (λ i. swapped (get_or cells i 0)) (length cells)

abbrev pub invariant-loop-cell : goal.invariant-loop-cell
invariant-loop-cell l = l.cells ≡ sets l.initial.cells 0 (take l.cell-index (whole l.initial.cells))
