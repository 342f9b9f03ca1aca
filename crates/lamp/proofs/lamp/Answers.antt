-- `lamp::lamp` meets its contract. Assumes nothing.
use mathlib.Core.Path.{sym, ap, ◌∙◌, subst}
use Rattle.rules.specs.declared.Device.{Device}
use Rattle.rules.specs.Fits.{Fits}
use Rattle.rules.proofs.Sizes.{khz50_fits}
use Rattle.lampgrounds.specs.Steps.{lamp_step}
use Rattle.lamp.proofs.lamp.Goals as goal

pub lamp_on-requires : goal.lamp_on-requires
lamp_on-requires c = subst Fits (sym c.khz50_device.ensures) khz50_fits

pub returns : goal.returns
returns c =
    let a = c.args in
    c.lamp_on.ensures ∙ ap (λ (d : Device). lamp_step d a.plan.now a.counts.now a.symbol.now) c.khz50_device.ensures
