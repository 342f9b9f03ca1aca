-- `limits::width_of` meets its contract: the one place of the code's proofs that opens `width`. Assumes nothing.
use mathlib.Core.Path.{refl}
use Rattle.rules.specs.Bands.{width}
use Rattle.limits.proofs.width_of.Goals as goal

pub returns : goal.returns
unfolding width
returns c = refl
