-- `samples::at` meets its contract. Assumes nothing.
use mathlib.Core.Path.{sym}
use lib.ListN.{get_or-eq_default}
use Rattle.samples.proofs.at.Goals as goal

pub returns : goal.returns
returns c = sym (get_or-eq_default c.args.cells.now 0 c.if-place-cells.false)
