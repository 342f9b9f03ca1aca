-- `byteexchange::exchange_one` meets its contract. Assumes nothing.
use mathlib.Core.Path.{refl, ap}
use lib.ListN.{set}
use Rattle.byteexchange.proofs.exchange_one.Goals as goal

pub returns : goal.returns
returns c =
    let a = c.args in
    record { came = refl; stored = c.put.ensures; sent = ap (set a.cells.now a.p) c.cell_at-oldest.ensures }
