-- `bytereceiver::receive` meets its contract. Assumes nothing.
use mathlib.Core.Path.{sym, ◌∙◌}
use Rattle.rules.specs.Device.{khz50}
use Rattle.bytereceiver.proofs.Bytes.{refused_odd, left_whole}
use Rattle.bytereceiver.proofs.receive.Goals as goal

pub returns-then-some_halved : goal.returns-then-some_halved
returns-then-some_halved c =
    let a = c.args in
    refused_odd khz50 a.plan.now a.profile.now a.state a.store.now a.symbol.now a.buffer.now (sym c.some_halved.ensures.0 ∙ c.if-some_halved.true)

pub receive_whole-requires : goal.receive_whole-requires
receive_whole-requires c = c.some_halved.ensures.1 c.if-some_halved.false

pub returns : goal.returns
returns c =
    let a = c.args in
    c.receive_whole.ensures
    ∙ left_whole khz50 a.plan.now a.profile.now a.state a.store.now a.symbol.now a.buffer.now (sym c.some_halved.ensures.0 ∙ c.if-some_halved.false)
