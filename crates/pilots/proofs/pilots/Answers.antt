-- `pilots::pilots` meets its contract. Assumes nothing.
use mathlib.Core.Path.{sym, ap, ◌∙◌, subst}
use Rattle.rules.specs.declared.Device.{Device}
use Rattle.rules.specs.Fits.{Fits}
use Rattle.rules.proofs.Sizes.{khz50_fits}
use Rattle.pilots.specs.Pilots.{pilots_answer}
use Rattle.pilots.proofs.pilots.Goals as goal

pub pilots_on-requires : goal.pilots_on-requires
pilots_on-requires c = subst Fits (sym c.khz50_device.ensures) khz50_fits

pub returns : goal.returns
returns c = c.pilots_on.ensures ∙ ap (λ (d : Device). pilots_answer d c.args.plan.now) c.khz50_device.ensures
