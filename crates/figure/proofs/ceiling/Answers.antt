-- `figure::ceiling` meets its contract. Assumes nothing.
use mathlib.Core.Path.{refl}
use Rattle.rules.specs.Fits.{capacity}
use Rattle.figure.specs.Figure as figure
use Rattle.figure.proofs.Sizes.{ceiling_low}
use Rattle.figure.proofs.ceiling.Goals as goal

pub returns : goal.returns
unfolding figure.ceiling
returns c = (refl, ceiling_low c.args.n c.args.m capacity c.requires.0 c.requires.2)
