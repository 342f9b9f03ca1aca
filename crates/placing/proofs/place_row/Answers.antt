-- `placing::place_row` meets its contract. Assumes nothing.
use Prim.Native.Nat.{ℕ, ◌+◌, ◌*◌, ◌-◌, ◌/◌, ◌^◌}
use mathlib.Core.Path.{◌≡◌, refl, ap, ◌∙◌}
use native.Mathlib.Omega.{arith}
use lib.ListN.{length, get_or}
use Rattle.frame.proofs.House.{reversed_lt}
use Rattle.walk.specs.Walk.{walk_cell}
use Rattle.walk.proofs.Stores.{stores_next, stores_more}
use Rattle.rows.proofs.RowLaws.{Cells, cells_of, further, here}
use Rattle.placing.proofs.place_row.Goals as goal
use Rattle.placing.proofs.place_row.Goals.{At-loop, In-loop, In-loop-2}

-- the row that is read, and its number of cells
cells : (c : At-loop)
    → Cells c.args.bits (length c.args.cells.now) c.args.i c.args.row c.args.first c.power-rows.result ((length c.args.cells.now + c.power-rows.result - 1 - c.args.row) / 2 ^ c.args.bits)
cells c = let pre = c.requires in cells_of _ _ _ _ _ _ _ pre.0 pre.4 pre.5 pre.6 c.power-rows.ensures refl

pub overflow_sub-count-2 : goal.overflow_sub-count-2
overflow_sub-count-2 c = omega (arith, c.requires.5, reversed_lt c.args.bits c.args.i, c.power-rows.ensures)

-- ---- four cells at a time

pub place_four-requires : goal.place_four-requires
place_four-requires c =
    let pre = c.requires in
    let l = c.loop in
    let w = cells (goal.at.place_four-requires c).At-loop in
    let h = further w (4 * l.counter) 3 _ _ l.invariant.0 l.invariant.1 (omega arith) in
    (w.few, omega (arith, h.1), omega (arith, h.0, pre.2), λ t k. omega (arith, pre.3 (l.rank + t) (omega (arith, h.0))))

pub overflow_add-rank : goal.overflow_add-rank
overflow_add-rank c =
    let w = cells (goal.at.overflow_add-rank c).At-loop in
    omega (arith, (further w (4 * c.loop.counter) 3 _ _ c.loop.invariant.0 c.loop.invariant.1 (omega arith)).0, c.requires.1)

pub overflow_add-p : goal.overflow_add-p
overflow_add-p c =
    let w = cells (goal.at.overflow_add-p c).At-loop in
    omega (arith, (further w (4 * c.loop.counter) 3 _ _ c.loop.invariant.0 c.loop.invariant.1 (omega arith)).1, w.few, c.requires.1)

pub loop-preserved : goal.loop-preserved
loop-preserved c =
    let a = c.args in
    let l = c.loop in
    let rows = c.power-rows.result in
    let w = cells (goal.at.loop-preserved c).At-loop in (
      omega (arith, l.invariant.0),
      omega (arith, l.invariant.1),
      λ y e. c.place_four.ensures ∙ stores_more (λ r. get_or a.car.now r 0) (λ r. get_or a.cells.now (walk_cell a.bits (length a.cells.now) r) 0) (λ t. get_or a.car.now (l.rank + t) 0) (λ t. get_or a.cells.now (l.p + t * rows) 0) l.rank 4 y l.out (l.invariant.2 y e)
          (λ t k. refl) (λ t k. ap (λ (q : ℕ). get_or a.cells.now q 0) (further w (4 * l.counter) t _ _ l.invariant.0 l.invariant.1 (omega arith)).2),
    )

-- ---- the rest of the row, one cell after the other

pub offset_bounds-car-rank : goal.offset_bounds-car-rank
offset_bounds-car-rank c =
    let l = c.loop-2 in
    omega (arith, (here (cells (goal.at.offset_bounds-car-rank c).At-loop) (4 * ((length c.args.cells.now + c.power-rows.result - 1 - c.args.row) / 2 ^ c.args.bits / 4) + l.counter) _ _ l.invariant.0 l.invariant.1 (omega arith)).0, c.requires.1)

pub bounds-car-rank : goal.bounds-car-rank
bounds-car-rank c =
    let l = c.loop-2 in
    omega (arith, (here (cells (goal.at.bounds-car-rank c).At-loop) (4 * ((length c.args.cells.now + c.power-rows.result - 1 - c.args.row) / 2 ^ c.args.bits / 4) + l.counter) _ _ l.invariant.0 l.invariant.1 (omega arith)).0, c.requires.2)

pub offset_bounds-cells-p : goal.offset_bounds-cells-p
offset_bounds-cells-p c =
    let l = c.loop-2 in
    omega (arith, (here (cells (goal.at.offset_bounds-cells-p c).At-loop) (4 * ((length c.args.cells.now + c.power-rows.result - 1 - c.args.row) / 2 ^ c.args.bits / 4) + l.counter) _ _ l.invariant.0 l.invariant.1 (omega arith)).1, c.requires.1)

pub bounds-cells-p : goal.bounds-cells-p
bounds-cells-p c =
    let l = c.loop-2 in
    omega (arith, (here (cells (goal.at.bounds-cells-p c).At-loop) (4 * ((length c.args.cells.now + c.power-rows.result - 1 - c.args.row) / 2 ^ c.args.bits / 4) + l.counter) _ _ l.invariant.0 l.invariant.1 (omega arith)).1, c.requires.1)

pub bounds-out-k : goal.bounds-out-k
bounds-out-k c =
    let l = c.loop-2 in
    let h = here (cells (goal.at.bounds-out-k c).At-loop) (4 * ((length c.args.cells.now + c.power-rows.result - 1 - c.args.row) / 2 ^ c.args.bits / 4) + l.counter) _ _ l.invariant.0 l.invariant.1 (omega arith) in
    omega (arith, c.requires.3 l.rank h.0, c.wide-k.ensures.0)

pub overflow_add-rank-in-loop-2 : goal.overflow_add-rank-in-loop-2
overflow_add-rank-in-loop-2 c =
    let l = c.loop-2 in
    omega (arith, (here (cells (goal.at.overflow_add-rank-in-loop-2 c).At-loop) (4 * ((length c.args.cells.now + c.power-rows.result - 1 - c.args.row) / 2 ^ c.args.bits / 4) + l.counter) _ _ l.invariant.0 l.invariant.1 (omega arith)).0, c.requires.1)

pub overflow_add-p-in-loop-2 : goal.overflow_add-p-in-loop-2
overflow_add-p-in-loop-2 c =
    let l = c.loop-2 in
    let w = cells (goal.at.overflow_add-p-in-loop-2 c).At-loop in
    omega (arith, (here w (4 * ((length c.args.cells.now + c.power-rows.result - 1 - c.args.row) / 2 ^ c.args.bits / 4) + l.counter) _ _ l.invariant.0 l.invariant.1 (omega arith)).1, w.few, c.requires.1)

pub loop-2-init : goal.loop-2-init
loop-2-init c =
    let l = c.loop in
    let e : l.counter ≡ (length c.args.cells.now + c.power-rows.result - 1 - c.args.row) / 2 ^ c.args.bits / 4 = omega arith in
    (omega (arith, l.invariant.0, e), omega (arith, l.invariant.1, ap (λ (x : ℕ). x * c.power-rows.result) e), l.invariant.2)

pub loop-2-preserved : goal.loop-2-preserved
loop-2-preserved c =
    let a = c.args in
    let l = c.loop-2 in
    let h = here (cells (goal.at.loop-2-preserved c).At-loop) (4 * ((length c.args.cells.now + c.power-rows.result - 1 - c.args.row) / 2 ^ c.args.bits / 4) + l.counter) _ _ l.invariant.0 l.invariant.1 (omega arith) in (
      omega (arith, l.invariant.0),
      omega (arith, l.invariant.1),
      λ y e. stores_next (λ r. get_or a.car.now r 0) (λ r. get_or a.cells.now (walk_cell a.bits (length a.cells.now) r) 0) l.rank y l.out c.wide-k.result (get_or a.cells.now l.p 0) (l.invariant.2 y e)
          c.wide-k.ensures.0 (ap (λ (q : ℕ). get_or a.cells.now q 0) h.2),
    )

pub returns-clause-rank : goal.returns-clause-rank
returns-clause-rank c = omega (arith, c.loop-2.invariant.0, (cells (goal.at.returns-clause-rank c).At-loop).next)
