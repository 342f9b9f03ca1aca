-- `pilots::list_block` meets its contract. Assumes nothing.
use Prim.Native.Nat.{◌+◌}
use native.Mathlib.Omega.{arith}
use Rattle.pilots.proofs.Listing.{fewer_below, listed_over}
use Rattle.pilots.proofs.list_block.Goals as goal

pub returns-then-not-has_pilot : goal.returns-then-not-has_pilot
returns-then-not-has_pilot c =
    listed_over c.args.marks.now c.args.k c.args.n c.args.list.now (c.has_pilot.ensures c.if-not-has_pilot.true) c.requires.3

pub list_one-m-requires : goal.list_one-m-requires
list_one-m-requires c =
    (omega arith, omega (arith, c.requires.1), omega (arith, c.requires.2, fewer_below c.args.marks.now (c.loop-i.i + 1) (c.args.k + 16) (omega arith)), c.loop-i.invariant)
