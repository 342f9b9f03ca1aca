-- `bitfours::two_loads` meets its contract. Assumes nothing.
use Prim.Native.Nat.{◌+◌}
use native.Mathlib.Omega.{arith}
use Rattle.bitfours.proofs.Fours.{total_two}
use Rattle.bitfours.proofs.two_loads.Goals as goal

pub returns : goal.returns
returns c =
    let s = c in
    (omega (arith, total_two s.args.loads.now s.args.c s.requires.0), omega (arith, s.requires.1 s.args.c (omega arith), s.requires.1 (s.args.c + 1) (omega arith)))
