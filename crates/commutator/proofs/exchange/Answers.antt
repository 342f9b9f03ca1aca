-- `commutator::exchange` meets its contract. Assumes nothing.
use mathlib.Core.Path.{ap}
use lib.ListN.{set}
use Rattle.commutator.proofs.exchange.Goals as goal

pub returns : goal.returns
returns c =
    let a = c.args in
    record { stored = ap (set a.store.now a.at) c.cell_in-newest.ensures; sent = c.cell_out.ensures }
