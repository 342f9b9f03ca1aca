-- `arrivals::fitting_cells` meets its contract. The loop has counted among the first k cells. Assumes nothing.
use mathlib.Core.Path.{refl}
use native.Mathlib.Omega.{arith}
use Rattle.counting.specs.Search.{sum, count}
use Rattle.counting.proofs.Laws.{count_le, bit_le, count_step}
use Rattle.arrivals.specs.Expected.{allowed_at}
use Rattle.arrivals.proofs.fitting_cells.Goals as goal

pub loop-k-init : goal.loop-k-init
unfolding count sum
loop-k-init c = refl

pub overflow_add-n : goal.overflow_add-n
unfolding allowed_at
overflow_add-n c =
    let a = c.args in
    let l = c.loop-k in
    omega (arith, count_le (allowed_at a.limits.now a.marks.now a.symbol.now) l.k, bit_le (allowed_at a.limits.now a.marks.now a.symbol.now l.k), c.cell_fits-n.ensures, l.invariant)

pub loop-k-preserved : goal.loop-k-preserved
unfolding allowed_at
loop-k-preserved c =
    let a = c.args in
    let l = c.loop-k in
    rw c.cell_fits-n.ensures (omega (arith, count_step (allowed_at a.limits.now a.marks.now a.symbol.now) l.k, l.invariant))
