-- `bitfours::four_loads` meets its contract. Assumes nothing.
use native.Mathlib.Omega.{arith}
use Rattle.bitfours.proofs.Fours.{total_two_two}
use Rattle.bitfours.proofs.four_loads.Goals as goal

pub returns : goal.returns
returns c = (omega (arith, total_two_two c.args.loads.now c.args.c), omega arith)
