-- `fill::fill_cells` meets its contract. The loop has filled i cells, and those below cell p + i have used so many of the data. Assumes nothing.
use Prim.Native.Nat.{◌+◌, ◌<◌}
use mathlib.Core.Path.{refl}
use native.Mathlib.Omega.{arith}
use lib.ListN.{length}
use Rattle.fill.proofs.Blocks.{stored_next, stored_all}
use Rattle.fill.proofs.Filling.{data_next, held_next, data_room, data_cell_lem, held_cell}
use Rattle.fill.proofs.fill_cells.Goals as goal
use Rattle.fill.proofs.fill_cells.Goals.{then-flag-p-ne0, else-flag-p-ne0, Else-flag-p-ne0}

-- a data cell: there is a number for it
given : (c : Else-flag-p-ne0) → c.loop-i.used < length c.args.ds.now
given c =
    let g = c in
    let l = c.loop-i in
    data_room g.args.flag.now g.args.p l.i l.used l.invariant.0 c.if-flag-p-ne0.false g.args.k (length g.args.ds.now) (omega arith) g.requires.3

pub offset_bounds-ds-used : goal.offset_bounds-ds-used
offset_bounds-ds-used c = omega (arith, given c)

pub bounds-ds-used : goal.bounds-ds-used
bounds-ds-used c = omega (arith, given (goal.at.bounds-ds-used c).Else-flag-p-ne0)

pub overflow_add-used : goal.overflow_add-used
overflow_add-used c = omega (arith, given (goal.at.overflow_add-used c).Else-flag-p-ne0)

pub loop-i-preserved : goal.loop-i-preserved
loop-i-preserved c =
    let a = c.args in
    let l = c.loop-i in
    let h : l.i < a.k = omega arith in
    elim c.if-flag-p-ne0.branch [
      | then-flag-p-ne0 w ↦ (
        held_next _ a.p l.i l.used l.invariant.0 w.if-flag-p-ne0.true c.if-flag-p-ne0.used w.used-is,
        stored_next _ _ _ _ l.i l.cells l.invariant.1 _ _ c.if-flag-p-ne0.cells h refl (held_cell a.flag.now a.ds.now (a.p + l.i) w.if-flag-p-ne0.true) w.cells-is,
      )
      | else-flag-p-ne0 w ↦ (
        data_next _ a.p l.i l.used l.invariant.0 w.if-flag-p-ne0.false c.if-flag-p-ne0.used w.used-is,
        stored_next _ _ _ _ l.i l.cells l.invariant.1 _ _ c.if-flag-p-ne0.cells h refl (data_cell_lem a.flag.now a.p l.i l.used l.invariant.0 a.ds.now w.if-flag-p-ne0.false) w.cells-is,
      )
    ]

pub returns-clause-filled : goal.returns-clause-filled
returns-clause-filled c =
    let l = c.loop-i in
    stored_all _ _ _ _ l.i l.cells l.invariant.1 (omega arith)
