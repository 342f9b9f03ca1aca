-- `judge::judge` meets its contract. Assumes nothing.
use mathlib.Core.Path.{refl, sym, ap, ◌∙◌, subst}
use Rattle.rules.specs.declared.Device.{Device}
use Rattle.rules.specs.Fits.{Fits}
use Rattle.rules.proofs.Sizes.{khz50_fits}
use Rattle.rules.specs.Grounds.{verdict}
use Rattle.judge.proofs.judge.Goals as goal

pub study-requires : goal.study-requires
study-requires c = (subst Fits (sym c.khz50_device.ensures) khz50_fits, refl)

pub returns : goal.returns
returns c = c.study.ensures.0 ∙ ap (λ (d : Device). verdict d c.args.plan.now) c.khz50_device.ensures
