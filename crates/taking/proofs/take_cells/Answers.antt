-- `taking::take_cells` meets its contract. The loop has passed i cells; what is taken is taken whatever stood in the buffer before the data of
-- the cells below cell p. Assumes nothing.
use Prim.Native.Nat.{◌+◌, ◌<◌}
use mathlib.Core.Path.{ap, ◌∙◌}
use native.Mathlib.Omega.{arith}
use lib.ListN.{length, get_or, length-set}
use Rattle.fill.proofs.Filling.{data_next, held_next, data_room}
use Rattle.taking.proofs.Taking.{taken_from, taken_list, taken_next}
use Rattle.taking.proofs.take_cells.Goals as goal
use Rattle.taking.proofs.take_cells.Goals.{then-flag-p-eq0, else-flag-p-eq0, Then-flag-p-eq0}

-- a data cell: there is room for it
room : (c : Then-flag-p-eq0) → c.loop-i.taken < length c.loop-i.buffer
room c =
    let g = c in
    let l = c.loop-i in
    data_room g.args.flag.now g.args.p l.i l.taken l.invariant.0 c.if-flag-p-eq0.true g.args.k _ (omega arith) (omega (arith, l.invariant.2, g.requires.3))

pub offset_bounds-buffer-taken : goal.offset_bounds-buffer-taken
offset_bounds-buffer-taken c = omega (arith, room (goal.at.offset_bounds-buffer-taken c).Then-flag-p-eq0)

pub bounds-buffer-taken : goal.bounds-buffer-taken
bounds-buffer-taken c = room (goal.at.bounds-buffer-taken c).Then-flag-p-eq0

pub overflow_add-taken : goal.overflow_add-taken
overflow_add-taken c = omega (arith, room (goal.at.overflow_add-taken c).Then-flag-p-eq0)

pub loop-i-preserved : goal.loop-i-preserved
loop-i-preserved c =
    let g = c in
    let a = g.args in
    let l = c.loop-i in
    let h : l.i < a.k = omega arith in
    let e = l.invariant.0 in
    elim c.if-flag-p-eq0.branch [
      | then-flag-p-eq0 w ↦ (
        data_next a.flag.now a.p l.i l.taken e w.if-flag-p-eq0.true c.if-flag-p-eq0.taken w.taken-is,
        λ b t. taken_next a.flag.now a.cells.now b (a.p + l.i) l.taken l.buffer (l.invariant.1 b t) e (omega (arith, h, g.requires.0)) w.if-flag-p-eq0.true c.if-flag-p-eq0.taken c.if-flag-p-eq0.buffer w.buffer-is w.taken-is,
        ap length w.buffer-is ∙ length-set l.buffer l.taken (get_or a.cells.now (a.p + l.i) 0) ∙ l.invariant.2,
      )
      | else-flag-p-eq0 w ↦ (
        held_next a.flag.now a.p l.i l.taken e w.if-flag-p-eq0.false c.if-flag-p-eq0.taken w.taken-is,
        λ b t. rw (w.buffer-is, w.taken-is) (l.invariant.1 b t),
        ap length w.buffer-is ∙ l.invariant.2,
      )
    ]

pub returns-clause-stored : goal.returns-clause-stored
returns-clause-stored c =
    let a = c.args in
    let l = c.loop-i in
    λ b t. taken_list _ _ b l.taken l.buffer (l.invariant.1 b (taken_from a.flag.now a.cells.now b a.d a.buffer.now t))
