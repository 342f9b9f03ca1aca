-- `bitput::from_bit` meets its contract. Assumes nothing.
use mathlib.Core.Path.{refl}
use native.Mathlib.Omega.{arith}
use lib.Pow.{shr_le}
use Rattle.bitput.proofs.from_bit.Goals as goal

pub overflow_mul-result : goal.overflow_mul-result
overflow_mul-result c = omega (arith, shr_le c.args.n c.args.bit)

pub overflow_add-result : goal.overflow_add-result
overflow_add-result c = omega (arith, shr_le c.args.n c.args.bit)

pub returns : goal.returns
returns c = (refl, omega (arith, shr_le c.args.n c.args.bit))
