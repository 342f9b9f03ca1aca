-- `rows::carry_row` meets its contract. Assumes nothing.
use Prim.Native.Nat.{ℕ, ◌+◌, ◌*◌, ◌-◌, ◌/◌, ◌^◌}
use mathlib.Core.Path.{◌≡◌, refl, ap, ◌∙◌}
use native.Mathlib.Omega.{arith}
use lib.ListN.{length, get_or}
use Rattle.frame.proofs.House.{reversed_lt}
use Rattle.walk.specs.Walk.{walk_cell}
use Rattle.walk.proofs.Stores.{stores_next, stores_more}
use Rattle.rows.proofs.RowLaws.{Cells, cells_of, further, here}
use Rattle.rows.proofs.carry_row.Goals as goal
use Rattle.rows.proofs.carry_row.Goals.{At-loop, In-loop, In-loop-2}

-- the row that is read, and its number of cells
cells : (c : At-loop)
    → Cells c.args.bits (length c.args.kc.now) c.args.i c.args.row c.args.first c.power-rows.result ((length c.args.kc.now + c.power-rows.result - 1 - c.args.row) / 2 ^ c.args.bits)
cells c = let pre = c.requires in cells_of _ _ _ _ _ _ _ pre.0 pre.3 pre.4 pre.5 c.power-rows.ensures refl

pub overflow_sub-count-2 : goal.overflow_sub-count-2
overflow_sub-count-2 c = omega (arith, c.requires.4, reversed_lt c.args.bits c.args.i, c.power-rows.ensures)

-- ---- four cells at a time

pub carry_four-requires : goal.carry_four-requires
carry_four-requires c =
    let w = cells (goal.at.carry_four-requires c).At-loop in
    let h = further w (4 * c.loop.counter) 3 _ _ c.loop.invariant.0 c.loop.invariant.1 (omega arith) in
    (w.few, omega (arith, h.1), omega (arith, h.0, c.requires.2))

pub overflow_add-rank : goal.overflow_add-rank
overflow_add-rank c =
    let w = cells (goal.at.overflow_add-rank c).At-loop in
    omega (arith, (further w (4 * c.loop.counter) 3 _ _ c.loop.invariant.0 c.loop.invariant.1 (omega arith)).0, c.requires.1)

pub overflow_add-cell : goal.overflow_add-cell
overflow_add-cell c =
    let w = cells (goal.at.overflow_add-cell c).At-loop in
    omega (arith, (further w (4 * c.loop.counter) 3 _ _ c.loop.invariant.0 c.loop.invariant.1 (omega arith)).1, w.few, c.requires.1)

pub loop-preserved : goal.loop-preserved
loop-preserved c =
    let a = c.args in
    let l = c.loop in
    let rows = c.power-rows.result in
    let w = cells (goal.at.loop-preserved c).At-loop in (
      omega (arith, l.invariant.0),
      omega (arith, l.invariant.1),
      λ y e. c.carry_four.ensures ∙ stores_more (walk_cell a.bits (length a.kc.now)) (λ r. get_or a.car.now r 0) (λ t. l.cell + t * rows) (λ t. get_or a.car.now (l.rank + t) 0) l.rank 4 y l.kc (l.invariant.2 y e)
          (λ t k. (further w (4 * l.counter) t _ _ l.invariant.0 l.invariant.1 (omega arith)).2) (λ t k. refl),
    )

-- ---- the rest of the row, one cell after the other

pub offset_bounds-car-rank : goal.offset_bounds-car-rank
offset_bounds-car-rank c =
    let l = c.loop-2 in
    omega (arith, (here (cells (goal.at.offset_bounds-car-rank c).At-loop) (4 * ((length c.args.kc.now + c.power-rows.result - 1 - c.args.row) / 2 ^ c.args.bits / 4) + l.counter) _ _ l.invariant.0 l.invariant.1 (omega arith)).0, c.requires.1)

pub bounds-car-rank : goal.bounds-car-rank
bounds-car-rank c =
    let l = c.loop-2 in
    omega (arith, (here (cells (goal.at.bounds-car-rank c).At-loop) (4 * ((length c.args.kc.now + c.power-rows.result - 1 - c.args.row) / 2 ^ c.args.bits / 4) + l.counter) _ _ l.invariant.0 l.invariant.1 (omega arith)).0, c.requires.2)

pub offset_bounds-kc-cell : goal.offset_bounds-kc-cell
offset_bounds-kc-cell c =
    let l = c.loop-2 in
    omega (arith, (here (cells (goal.at.offset_bounds-kc-cell c).At-loop) (4 * ((length c.args.kc.now + c.power-rows.result - 1 - c.args.row) / 2 ^ c.args.bits / 4) + l.counter) _ _ l.invariant.0 l.invariant.1 (omega arith)).1, c.requires.1)

pub bounds-kc-cell : goal.bounds-kc-cell
bounds-kc-cell c =
    let l = c.loop-2 in
    omega (arith, (here (cells (goal.at.bounds-kc-cell c).At-loop) (4 * ((length c.args.kc.now + c.power-rows.result - 1 - c.args.row) / 2 ^ c.args.bits / 4) + l.counter) _ _ l.invariant.0 l.invariant.1 (omega arith)).1, c.requires.1)

pub overflow_add-rank-in-loop-2 : goal.overflow_add-rank-in-loop-2
overflow_add-rank-in-loop-2 c =
    let l = c.loop-2 in
    omega (arith, (here (cells (goal.at.overflow_add-rank-in-loop-2 c).At-loop) (4 * ((length c.args.kc.now + c.power-rows.result - 1 - c.args.row) / 2 ^ c.args.bits / 4) + l.counter) _ _ l.invariant.0 l.invariant.1 (omega arith)).0, c.requires.1)

pub overflow_add-cell-in-loop-2 : goal.overflow_add-cell-in-loop-2
overflow_add-cell-in-loop-2 c =
    let l = c.loop-2 in
    let w = cells (goal.at.overflow_add-cell-in-loop-2 c).At-loop in
    omega (arith, (here w (4 * ((length c.args.kc.now + c.power-rows.result - 1 - c.args.row) / 2 ^ c.args.bits / 4) + l.counter) _ _ l.invariant.0 l.invariant.1 (omega arith)).1, w.few, c.requires.1)

pub loop-2-init : goal.loop-2-init
loop-2-init c =
    let l = c.loop in
    let e : l.counter ≡ (length c.args.kc.now + c.power-rows.result - 1 - c.args.row) / 2 ^ c.args.bits / 4 = omega arith in
    (omega (arith, l.invariant.0, e), omega (arith, l.invariant.1, ap (λ (x : ℕ). x * c.power-rows.result) e), l.invariant.2)

pub loop-2-preserved : goal.loop-2-preserved
loop-2-preserved c =
    let a = c.args in
    let l = c.loop-2 in
    let h = here (cells (goal.at.loop-2-preserved c).At-loop) (4 * ((length c.args.kc.now + c.power-rows.result - 1 - c.args.row) / 2 ^ c.args.bits / 4) + l.counter) _ _ l.invariant.0 l.invariant.1 (omega arith) in (
      omega (arith, l.invariant.0),
      omega (arith, l.invariant.1),
      λ y e. stores_next (walk_cell a.bits (length a.kc.now)) (λ r. get_or a.car.now r 0) l.rank y l.kc l.cell (get_or a.car.now l.rank 0) (l.invariant.2 y e) h.2 refl,
    )

pub returns-clause-rank : goal.returns-clause-rank
returns-clause-rank c = omega (arith, c.loop-2.invariant.0, (cells (goal.at.returns-clause-rank c).At-loop).next)
