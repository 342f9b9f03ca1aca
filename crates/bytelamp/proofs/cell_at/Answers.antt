-- `bytelamp::cell_at` meets its contract. Assumes nothing.
use mathlib.Core.Path.{sym, ◌∙◌}
use native.Mathlib.Omega.{arith}
use lib.ListN.{get_or-eq_default}
use Rattle.bytecells.specs.Octets.{cells_of}
use Rattle.bytecells.proofs.OctetLaws.{length_cells, get_or_cells}
use Rattle.bytelamp.proofs.cell_at.Goals as goal

pub returns-then-k-symbol : goal.returns-then-k-symbol
returns-then-k-symbol c =
    let a = c.args in
    c.join.ensures ∙ sym (get_or_cells a.symbol.now a.k c.if-k-symbol.true)

pub returns : goal.returns
returns c =
    let a = c.args in
    sym (get_or-eq_default (cells_of a.symbol.now) 0 {n = a.k} (omega (arith, length_cells a.symbol.now, c.if-k-symbol.false)))
