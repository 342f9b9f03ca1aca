-- `datalimit::within` meets its contract. The loop has counted the numbers so far. Assumes nothing.
use mathlib.Core.Path.{refl}
use native.Mathlib.Omega.{arith}
use Rattle.counting.specs.Search.{sum, count}
use Rattle.counting.proofs.Laws.{count_le, bit_le, count_step}
use Rattle.datalimit.proofs.Over.{is_within}
use Rattle.datalimit.proofs.within.Goals as goal

pub loop-x-init : goal.loop-x-init
unfolding count sum
loop-x-init c = refl

pub overflow_add-n : goal.overflow_add-n
overflow_add-n c =
    let g = c in
    let l = c.loop-x in
    let t = is_within g.args.limit g.args.ds.now in
    omega (arith, count_le t l.x-index, bit_le (t l.x-index), c.one_if_within-n.ensures, l.invariant)

pub loop-x-preserved : goal.loop-x-preserved
loop-x-preserved c =
    let a = c.args in
    let l = c.loop-x in
    rw c.one_if_within-n.ensures (omega (arith, count_step (is_within a.limit a.ds.now) l.x-index, l.invariant))
