-- `byteexchange::cell_at` meets its contract. Assumes nothing.
use Prim.Native.Nat.{◌/◌, ◌<◌}
use mathlib.Core.Path.{sym, ◌∙◌}
use native.Mathlib.Omega.{arith}
use lib.ListN.{length}
use Rattle.bytecells.proofs.OctetLaws.{get_or_cells}
use Rattle.byteexchange.proofs.cell_at.Goals as goal

pub returns : goal.returns
returns c =
    let a = c.args in
    let here : a.i < length a.store.now / 2 = omega arith in
    c.join.ensures ∙ sym (get_or_cells a.store.now a.i here)
