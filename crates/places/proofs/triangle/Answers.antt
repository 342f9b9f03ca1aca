-- `places::triangle` meets its contract. Assumes nothing.
use native.Mathlib.Nat.{mul-le-mul_right}
use native.Mathlib.Omega.{arith}
use Rattle.places.proofs.Sizes as sizes
use Rattle.places.proofs.triangle.Goals as goal

pub overflow_mul-result : goal.overflow_mul-result
overflow_mul-result c = omega (arith, mul-le-mul_right c.args.n c.requires)

pub overflow_sub-result : goal.overflow_sub-result
overflow_sub-result c = omega (arith, sizes.square c.args.n)

pub returns : goal.returns
returns c = sizes.triangle c.args.n
