-- `taking::take_data` meets its contract. The data of the blocks below b is taken. Assumes nothing.
use Prim.Native.Nat.{ℕ, ◌+◌, ◌*◌, ◌-◌, ◌/◌, ◌≤◌}
use mathlib.Core.Path.{◌≡◌, sym, ap, ◌∙◌}
use native.Mathlib.Omega.{arith}
use lib.ListN.{length}
use Rattle.counting.specs.Search.{count, is_zero}
use Rattle.fill.proofs.Blocks.{stored_start}
use Rattle.fill.proofs.Filling.{none_below, count_up, all_data_count, all_data_room}
use Rattle.taking.proofs.Taking.{taken_from, taken_list, taken_block, taken_all}
use Rattle.taking.proofs.take_data.Goals as goal
use Rattle.taking.proofs.take_data.Goals.{then-all_data, else-all_data, Then-all_data}

-- a block of data cells: there is room for them
room : (c : Then-all_data) → c.loop-b.taken + 16 ≤ length c.loop-b.buffer
room c =
    let g = c in
    let l = c.loop-b in
    let all = sym c.all_data.ensures ∙ c.if-all_data.true in
    all_data_room g.args.flag.now (16 * l.b) 16 l.taken l.invariant.0 all (length g.args.cells.now) _ (omega arith) (omega (arith, l.invariant.1.long, g.requires.2))

pub loop-b-init : goal.loop-b-init
loop-b-init c = (none_below _, stored_start _ _ _ _)

pub copy_block-requires : goal.copy_block-requires
copy_block-requires c = (omega arith, room (goal.at.copy_block-requires c).Then-all_data)

pub overflow_add-taken : goal.overflow_add-taken
overflow_add-taken c = omega (arith, room (goal.at.overflow_add-taken c).Then-all_data)

pub take_cells-taken-requires : goal.take_cells-taken-requires
take_cells-taken-requires c =
    let g = c in
    let l = c.loop-b in
    let h : 16 * l.b + 16 ≤ length c.args.cells.now = omega arith in
    (h, omega (arith, g.requires.1), l.invariant.0, omega (arith, l.invariant.1.long, g.requires.2, count_up (is_zero g.args.flag.now) ((16 * l.b) + 16) _ h))

pub loop-b-preserved : goal.loop-b-preserved
loop-b-preserved c =
    let a = c.args in
    let l = c.loop-b in
    let h : 16 * l.b + 16 ≤ length c.args.cells.now = omega arith in
    let next : 16 * (l.b + 1) ≡ 16 * l.b + 16 = omega arith in
    rw next
    (elim c.if-all_data.branch [
      | then-all_data w ↦
          let all = sym c.all_data.ensures ∙ w.if-all_data.true in (
            w.taken-is ∙ ap (λ (x : ℕ). x + 16) l.invariant.0 ∙ sym (all_data_count a.flag.now (16 * l.b) 16 all 16 (omega arith)),
            taken_block a.flag.now a.cells.now a.buffer.now (16 * l.b) 16 l.taken l.buffer l.invariant.1 l.invariant.0 h all c.if-all_data.taken c.if-all_data.buffer (w.buffer-is ∙ w.copy_block.ensures) w.taken-is,
          )
      | else-all_data w ↦ (
        w.taken-is ∙ w.take_cells-taken.ensures.number,
        taken_from a.flag.now a.cells.now a.buffer.now c.if-all_data.taken c.if-all_data.buffer (rw (w.buffer-is, w.taken-is) (w.take_cells-taken.ensures.stored a.buffer.now (taken_list _ _ _ l.taken l.buffer l.invariant.1))),
      )
    ])

pub returns : goal.returns
returns c =
    let a = c.args in
    let l = c.loop-b in
    let n = length a.cells.now in
    let p : ℕ = 16 * (n / 16) in
    let e : p + (n - p) ≡ n = omega arith in
    let end = c.take_cells.ensures in
    taken_all a.flag.now a.cells.now a.buffer.now _ _
    (taken_from _ _ _ _ _ (end.stored a.buffer.now (taken_list _ _ _ l.taken l.buffer l.invariant.1)))
    (end.number ∙ ap (count (is_zero a.flag.now)) e)
