-- `places::receiver_places` meets its contract. Assumes nothing.
use native.Mathlib.Nat.{mul-le-mul_right}
use Prim.Native.Nat.{◌-◌}
use native.Mathlib.Omega.{arith}
use Rattle.places.proofs.Sizes.{both_sizes}
use Rattle.places.proofs.receiver_places.Goals as goal

pub overflow_mul-result : goal.overflow_mul-result
overflow_mul-result c = omega (arith, mul-le-mul_right (c.args.m - 1) c.requires.2)

pub overflow_sub-result-2 : goal.overflow_sub-result-2
overflow_sub-result-2 c =
    let g = c in
    omega (arith, c.emitter_places-sent.ensures, both_sizes g.args.m g.args.n g.requires.0)

pub returns : goal.returns
returns c =
    let g = c in
    omega (arith, c.emitter_places-sent.ensures, both_sizes g.args.m g.args.n g.requires.0)
