-- `datalimit::over_cells` meets its contract. The loop has counted the first p cells. Assumes nothing.
use mathlib.Core.Path.{refl}
use native.Mathlib.Omega.{arith}
use Rattle.counting.specs.Search.{sum, count, tabulate}
use Rattle.counting.proofs.Laws.{count_le, bit_le, count_step}
use Rattle.rules.specs.Loads.{point_load, load_limit}
use Rattle.datalimit.proofs.Over.{is_over}
use Rattle.datalimit.proofs.over_cells.Goals as goal

pub loop-p-init : goal.loop-p-init
unfolding count sum
loop-p-init c = refl

pub cell_limit-requires : goal.cell_limit-requires
unfolding tabulate load_limit point_load
cell_limit-requires c =
    let start = c in
    (refl, omega (arith, start.requires.1), omega (arith, start.requires.0), start.requires.2 c.loop-p.p (omega arith), start.requires.3)

pub overflow_add-n : goal.overflow_add-n
overflow_add-n c =
    let a = c.args in
    let l = c.loop-p in
    let t = is_over a.profile.now a.kc.now a.x.now in
    omega (arith, count_le t l.p, bit_le (t l.p), rw c.cell_limit.ensures at c.one_if_over-n.ensures, l.invariant, c.requires.0)

pub loop-p-preserved : goal.loop-p-preserved
loop-p-preserved c =
    let a = c.args in
    let l = c.loop-p in
    let t = is_over a.profile.now a.kc.now a.x.now in
    let one = rw c.cell_limit.ensures at c.one_if_over-n.ensures in
    rw one (omega (arith, count_step t l.p, l.invariant))
