-- `bytecells::swap` meets its contract. Assumes nothing.
use mathlib.Core.Path.{refl}
use Rattle.bytecells.specs.Swapped.{swapped}
use Rattle.bytecells.proofs.swap.Goals as goal

pub returns : goal.returns
unfolding swapped
returns c = refl
