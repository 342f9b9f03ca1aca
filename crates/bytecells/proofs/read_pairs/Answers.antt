-- `bytecells::read_pairs` meets its contract. The loop has read the first i numbers. Assumes nothing.
use mathlib.Core.Path.{sym, ◌∙◌}
use native.Mathlib.Omega.{arith}
use lib.ListN.{length}
use Rattle.counting.proofs.Lists.{length_tabulate, get_d_tabulate}
use Rattle.bytecells.specs.Swapped.{low_first}
use Rattle.bytecells.proofs.Filled.{next_of, all_of}
use Rattle.bytecells.proofs.read_pairs.Goals as goal

pub loop-i-preserved : goal.loop-i-preserved
unfolding low_first
loop-i-preserved c =
    let a = c.args in
    let l = c.loop-i in
    next_of a.cells.now _ l.cells l.i _ l.invariant (omega (arith, length_tabulate (low_first a.b.now) (length a.cells.now)))
    (c.join.ensures ∙ sym (get_d_tabulate (low_first a.b.now) (length a.cells.now) 0 l.i (omega arith)))

pub returns : goal.returns
returns c =
    let a = c.args in
    let l = c.loop-i in
    all_of a.cells.now _ l.cells l.i l.invariant (length_tabulate _ (length a.cells.now)) (omega arith)
