-- `commutator::cell_in` meets its contract. Assumes nothing.
use mathlib.Core.Path.{sym}
use Rattle.figure.proofs.Lines.{cell_own, cell_dummy}
use Rattle.commutator.proofs.cell_in.Goals as goal

pub returns-then-p-cells : goal.returns-then-p-cells
returns-then-p-cells c = let a = c.args in sym (cell_own _ a.cells.now a.p c.if-p-cells.true)

pub returns-else-p-cells : goal.returns-else-p-cells
returns-else-p-cells c = let a = c.args in sym (cell_dummy _ a.cells.now a.p c.if-p-cells.false)
