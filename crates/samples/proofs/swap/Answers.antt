-- `samples::swap` meets its contract. Assumes nothing.
use mathlib.Core.Path.{sym}
use lib.ListN.{get_or-eq_default}
use lib.Seq.{set_out}
use Rattle.samples.proofs.swap.Goals as goal

pub returns : goal.returns
returns c =
    let a = c.args in
    record { value = sym (get_or-eq_default a.cells.now 0 c.if-place-cells.false); cells_after = sym (set_out a.cells.now a.place a.x c.if-place-cells.false) }
