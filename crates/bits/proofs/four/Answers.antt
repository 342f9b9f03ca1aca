-- `bits::four` meets its contract. Assumes nothing.
use mathlib.Core.Path.{refl}
use native.Mathlib.Omega.{arith}
use Rattle.bits.proofs.four.Goals as goal

pub returns : goal.returns
returns c = (refl, omega arith, omega arith, omega arith, omega arith)
