-- `coordinates::gray_row` meets its contract. Assumes nothing.
use Prim.Native.Nat.{◌+◌, ◌-◌, ◌*◌, ◌^◌, ◌<◌, ◌≤◌}
use mathlib.Core.Path.{◌≡◌}
use native.Mathlib.Omega.{arith}
use lib.IntN.{pos}
use lib.ListN.{get_or}
use lib.Pow.{pow_mono}
use Rattle.gray.specs.Gray.{gray}
use Rattle.coordinates.proofs.GrayTable.{sum_fits, sum_is, less_fits, less_is, source, doubled_next}
use Rattle.coordinates.proofs.gray_row.Goals as goal
use Rattle.coordinates.proofs.gray_row.Goals.{In-loop-k}

-- the loop has room for two values more
room : (c : In-loop-k) → 2 * c.loop-k.k + 1 < 256
room c =
    let n = c.args.n in
    let f : n ≤ 6 = omega (arith, c.requires.1) in
    omega (arith, c.loop-k-test.true, c.power-p.ensures, pow_mono f)

-- the value of n bits that is read
value : (c : In-loop-k) → get_or c.loop-k.w c.loop-k.k (pos 0) ≡ gray c.args.n (c.loop-k.k - 2 ^ c.args.n)
value c = source _ _ c.loop-k.k c.loop-k.invariant (omega (arith, c.power-p.ensures))

pub overflow_add-c : goal.overflow_add-c
overflow_add-c c = sum_fits c.args.n _ _ c.requires.1 c.power-p.ensures _ (value (goal.at.overflow_add-c c).In-loop-k)

pub overflow_sub-w : goal.overflow_sub-w
overflow_sub-w c = less_fits c.args.n _ _ c.requires.1 c.power-p.ensures _ (value (goal.at.overflow_sub-w c).In-loop-k)

pub loop-k-preserved : goal.loop-k-preserved
loop-k-preserved c =
    let n = c.args.n in
    let few = c.requires.1 in
    let power = c.power-p.ensures in
    let v = value (goal.at.loop-k-preserved c).In-loop-k in
    doubled_next n _ _ c.loop-k.invariant (omega arith) _ _ (sum_is n _ _ few power _ v) (less_is n _ _ few power _ v) (room (goal.at.loop-k-preserved c).In-loop-k)
