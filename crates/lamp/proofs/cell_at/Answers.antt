-- `lamp::cell_at` meets its contract. Assumes nothing.
use mathlib.Core.Path.{sym}
use lib.ListN.{get_or-eq_default}
use Rattle.lamp.proofs.cell_at.Goals as goal

pub returns : goal.returns
returns c = let a = c.args in sym (get_or-eq_default a.symbol.now 0 {n = a.k} c.if-k-symbol.false)
