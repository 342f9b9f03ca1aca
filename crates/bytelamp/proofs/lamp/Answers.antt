-- `bytelamp::lamp` meets its contract. Assumes nothing.
use mathlib.Core.Path.{sym, ap, ◌∙◌, subst}
use Rattle.rules.specs.declared.Device.{Device}
use Rattle.rules.specs.Device.{khz50}
use Rattle.rules.specs.Fits.{Fits}
use Rattle.rules.proofs.Sizes.{khz50_fits}
use Rattle.bytecells.specs.Octets.{cells_of}
use Rattle.lampgrounds.specs.Steps.{lamp_step}
use Rattle.bytelamp.proofs.Bytes.{lamp_odd, lamp_short, lamp_left, lamp_put}
use Rattle.bytelamp.proofs.lamp.Goals as goal

pub returns-then-halved : goal.returns-then-halved
returns-then-halved c =
    let a = c.args in
    lamp_odd khz50 a.plan.now a.lights.now a.symbol.now a.counts.now (sym c.halved.ensures.0 ∙ c.if-halved.true)

pub returns-then-lights-lt-PILOTS : goal.returns-then-lights-lt-PILOTS
returns-then-lights-lt-PILOTS c =
    let a = c.args in
    lamp_short khz50 a.plan.now a.lights.now a.symbol.now a.counts.now c.if-lights-lt-PILOTS.true

pub lamp_on-answer-requires : goal.lamp_on-answer-requires
lamp_on-answer-requires c = subst Fits (sym c.khz50_device.ensures) khz50_fits

pub returns : goal.returns
returns c =
    let lit = c in
    let left = lit in
    let a = left.args in
    let step = lit.lamp_on-answer.ensures ∙ ap (λ (d : Device). lamp_step d a.plan.now a.counts.now (cells_of a.symbol.now)) lit.khz50_device.ensures in
    lamp_put khz50 a.plan.now a.lights.now a.symbol.now a.counts.now _ _ _ _ step c.put_lights.ensures.0 c.put_lights.ensures.1
    ∙ lamp_left khz50 a.plan.now a.lights.now a.symbol.now a.counts.now (sym left.halved.ensures.0 ∙ left.if-halved.false) left.if-lights-lt-PILOTS.false
