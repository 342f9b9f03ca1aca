-- `bytecells::read_first` meets its contract. Assumes nothing.
use Prim.Native.Nat.{◌/◌}
use mathlib.Core.Path.{◌≡◌, sym, ◌∙◌}
use native.Mathlib.Omega.{arith}
use lib.ListN.{length, take, drop}
use lib.Seq.{length-take-le, take_at}
use Rattle.bytecells.proofs.OctetLaws.{length_cells, whole_length}
use Rattle.bytecells.proofs.read_first.Goals as goal
use Rattle.bytecells.proofs.read_first.Goals.{After-read_cells-arg-1}

-- the part that is read into has a place for each cell
part : (c : After-read_cells-arg-1) → let a = c.args in length (take (length a.b.now / 2) a.cells.now) ≡ length a.b.now / 2
part c = let a = c.args in length-take-le (length a.b.now / 2) a.cells.now c.if-n-cells.true

pub slice_bounds-read_cells-end-then-n-cells : goal.slice_bounds-read_cells-end-then-n-cells
slice_bounds-read_cells-end-then-n-cells c = sym (part c)

pub read_cells-requires : goal.read_cells-requires
read_cells-requires c =
    let g = c in
    let b = g.args.b.now in
    omega (arith, part c, whole_length b g.requires, length_cells b)

pub returns-then-n-cells : goal.returns-then-n-cells
returns-then-n-cells c =
    let a = c.args in
    let read = c.read_cells in
    record { number = sym (length_cells a.b.now); read = λ _. take_at read.new.cells (drop (length a.b.now / 2) a.cells.now) (length a.b.now / 2) (read.auto.cells ∙ part (goal.at.returns-then-n-cells c).After-read_cells-arg-1) ∙ read.ensures }

pub returns-else-n-cells : goal.returns-else-n-cells
returns-else-n-cells c = record { number = sym (length_cells c.args.b.now); read = λ h. absurd (omega (arith, h, c.if-n-cells.false)) }
