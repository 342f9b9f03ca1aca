-- `commutator::cell_out` meets its contract. Assumes nothing.
use mathlib.Core.Path.{sym}
use Rattle.commutator.proofs.Cells.{sent_own, sent_dummy}
use Rattle.commutator.proofs.cell_out.Goals as goal

pub returns-then-p-n : goal.returns-then-p-n
returns-then-p-n c = let a = c.args in sym (sent_own a.cells.now a.p a.v c.if-p-n.true)

pub returns-else-p-n : goal.returns-else-p-n
returns-else-p-n c = let a = c.args in sym (sent_dummy a.cells.now a.p a.v c.if-p-n.false)
