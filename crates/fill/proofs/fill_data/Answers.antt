-- `fill::fill_data` meets its contract. The cells of the blocks below b are filled, and have used d of the data. Assumes nothing.
use Prim.Native.Nat.{ℕ, ◌+◌, ◌*◌, ◌-◌, ◌/◌, ◌≤◌}
use mathlib.Core.Path.{◌≡◌, refl, sym, ap, ◌∙◌}
use native.Mathlib.Omega.{arith}
use lib.ListN.{length}
use Rattle.counting.specs.Search.{is_zero}
use Rattle.fill.specs.Flags.{data_cell}
use Rattle.fill.proofs.Blocks.{stored_start, stored_block, stored_whole}
use Rattle.fill.proofs.Filling.{none_below, count_up, all_data_count, all_data_cell, all_data_room}
use Rattle.fill.proofs.fill_data.Goals as goal
use Rattle.fill.proofs.fill_data.Goals.{then-all_data, else-all_data, Then-all_data}

-- a block of data cells: there are numbers for them
given : (c : Then-all_data) → c.loop-b.d + 16 ≤ length c.args.ds.now
given c =
    let g = c in
    let l = c.loop-b in
    let all = sym c.all_data.ensures ∙ c.if-all_data.true in
    all_data_room g.args.flag.now (16 * l.b) 16 l.d l.invariant.0 all _ _ (omega arith) g.requires.2

pub loop-b-init : goal.loop-b-init
loop-b-init c = (none_below _, stored_start _ _ _ _)

pub copy_block-requires : goal.copy_block-requires
copy_block-requires c = (given (goal.at.copy_block-requires c).Then-all_data, omega (arith, c.loop-b.invariant.1.long))

pub overflow_add-d : goal.overflow_add-d
overflow_add-d c = omega (arith, given (goal.at.overflow_add-d c).Then-all_data)

pub fill_cells-d-requires : goal.fill_cells-d-requires
fill_cells-d-requires c =
    let g = c in
    let l = c.loop-b in
    let h : 16 * l.b + 16 ≤ length c.args.cells.now = omega arith in
    (omega (arith, l.invariant.1.long), omega (arith, g.requires.1), l.invariant.0, omega (arith, g.requires.2, count_up (is_zero g.args.flag.now) ((16 * l.b) + 16) _ h))

pub loop-b-preserved : goal.loop-b-preserved
loop-b-preserved c =
    let a = c.args in
    let l = c.loop-b in
    let h : 16 * l.b + 16 ≤ length c.args.cells.now = omega arith in
    let next : 16 * (l.b + 1) ≡ 16 * l.b + 16 = omega arith in
    rw next
    (elim c.if-all_data.branch [
      | then-all_data w ↦
          let all = sym c.all_data.ensures ∙ w.if-all_data.true in (
            w.d-is ∙ ap (λ (x : ℕ). x + 16) l.invariant.0 ∙ sym (all_data_count a.flag.now (16 * l.b) 16 all 16 (omega arith)),
            stored_block _ _ _ _ (16 * l.b) l.cells l.invariant.1 _ 16 (16 * l.b) c.if-all_data.cells h (omega arith) (all_data_cell a.flag.now a.ds.now (16 * l.b) 16 l.d l.invariant.0 all) (w.cells-is ∙ w.copy_block.ensures),
          )
      | else-all_data w ↦ (
        w.d-is ∙ w.fill_cells-d.ensures.used,
        stored_block _ _ _ _ (16 * l.b) l.cells l.invariant.1 _ 16 (16 * l.b) c.if-all_data.cells h (omega arith) (λ t k. refl) (w.cells-is ∙ w.fill_cells-d.ensures.filled),
      )
    ])

pub returns : goal.returns
returns c =
    let a = c.args in
    let l = c.loop-b in
    let n = length a.cells.now in
    let p : ℕ = 16 * (n / 16) in
    let at : 16 * l.b ≡ p = omega arith in
    stored_whole _ _ _ _ _
    (stored_block a.cells.now 0 (data_cell a.flag.now a.ds.now) n p l.cells (rw at at l.invariant.1) _ (n - p) p _ (omega arith) (omega arith) (λ t k. refl) c.fill_cells.ensures.filled)
    (omega arith) refl
