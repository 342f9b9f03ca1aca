-- `why::above_plc` meets its contract. Assumes nothing.
use mathlib.Core.Path.{refl}
use Rattle.why.proofs.above_plc.Goals as goal

pub returns : goal.returns
returns c = refl
