-- `exclusion::try_exclusion` meets its contract. Assumes nothing.
use mathlib.Core.Path.{sym, ap, ◌∙◌, subst}
use native.Mathlib.Omega.{arith}
use Rattle.rules.specs.declared.Device.{Device}
use Rattle.rules.specs.Fits.{Fits}
use Rattle.rules.proofs.Sizes.{khz50_fits}
use Rattle.exclusion.specs.Trial.{trial_verdict}
use Rattle.exclusion.proofs.try_exclusion.Goals as goal

pub try_range-trial-requires : goal.try_range-trial-requires
try_range-trial-requires c = (subst Fits (sym c.khz50_device.ensures) khz50_fits, omega arith)

pub returns : goal.returns
returns c =
    let g = c in
    c.try_range-trial.ensures.0 ∙ ap (λ (d : Device). trial_verdict d g.args.plan.now g.args.first g.args.last) c.khz50_device.ensures
