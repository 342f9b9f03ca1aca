-- `bitunfill::unfill_into` meets its contract. The bits of the cells below c are in the stream, and `left` bits are left. Assumes nothing.
use Prim.Native.Nat.{◌+◌, ◌*◌, ◌≤◌}
use mathlib.Core.Path.{refl, ap, ◌∙◌}
use native.Mathlib.Omega.{arith}
use lib.ListN.{length, take, drop, length-drop}
use lib.Seq.{take-add, get_or-drop}
use Rattle.rules.specs.Bits.{total}
use Rattle.bits.proofs.FillLaws.{total-append}
use Rattle.bits.proofs.Windows.{part, total_parts}
use Rattle.bitunfill.proofs.Pouring.{poured_start, held_small, room, poured_next, poured_end}
use Rattle.bitunfill.proofs.unfill_into.Goals as goal
use Rattle.bitunfill.proofs.unfill_into.Goals.{In-loop-left}

-- five cells are left, and eight bytes of the stream
good : (c : In-loop-left) → let g = c.args in let w = c.loop-left in
    (w.c + 5 ≤ length g.loads.now) × (w.at * 8 + 64 ≤ g.start + total g.loads.now) × (w.at + 8 ≤ length g.stream.now)
good c =
    let s = c in
    let g = s.args in
    let w = c.loop-left in
    room g.loads.now g.cells.now g.stream.now g.start s.requires.0 s.requires.3 w.stream w.at w.bit w.held w.c w.invariant.1 w.left s.requires.1 w.invariant.0 c.loop-left-test.true

pub loop-left-init : goal.loop-left-init
loop-left-init c =
    let s = c in
    let g = s.args in
    (unfold total in (omega (arith, s.requires.2)), poured_start g.loads.now g.cells.now g.stream.now g.start s.requires.0 s.requires.3 _ _ _ refl refl c.below-held.ensures)

pub four_loads-l-requires : goal.four_loads-l-requires
four_loads-l-requires c = (omega (arith, (good c).0), c.requires.1)

pub four_cells-v-requires : goal.four_cells-v-requires
four_cells-v-requires c =
    let s = c in
    let g = s.args in
    let w = c.loop-left in (
      s.requires.0,
      omega (arith, (good (goal.at.four_cells-v-requires c).In-loop-left).0),
      s.requires.1,
      w.invariant.1.inner,
      held_small g.loads.now g.cells.now g.stream.now g.start s.requires.0 s.requires.3 w.stream w.at w.bit w.held w.c w.invariant.1,
    )

pub loop-left-preserved : goal.loop-left-preserved
loop-left-preserved c =
    let i = c in
    let s = i in
    let g = s.args in
    let w = i.loop-left in
    let l = c.four_loads-l in (
      omega (arith, w.invariant.0, i.loop-left-test.true, l.ensures.1, ap total (take-add w.c 4 g.loads.now) ∙ total-append (take w.c g.loads.now) (take 4 (drop w.c g.loads.now))),
      poured_next g.loads.now g.cells.now g.stream.now g.start s.requires.0 s.requires.3 w.stream w.at w.bit w.held w.c w.invariant.1
          _ 4 l.result _ (omega (arith, (good (goal.at.loop-left-preserved c).In-loop-left).0)) (good (goal.at.loop-left-preserved c).In-loop-left).1 l.ensures.0 l.ensures.1 c.four_cells-v.ensures (omega arith) c.put_eight.ensures,
    )

pub put_cells-requires : goal.put_cells-requires
put_cells-requires c =
    let s = c in
    let w = c.loop-left in
    let ls = s.args.loads.now in
    let xs = s.args.cells.now in
    rw (part ls w.c, part xs w.c) (
      omega (arith, s.requires.0, length-drop w.c ls, length-drop w.c xs),
      λ i h. rw (get_or-drop w.c ls i 0) (s.requires.1 (w.c + i) (omega (arith, length-drop w.c ls))),
      w.invariant.1.inner,
      omega (arith, s.requires.3, total_parts ls w.c),
    )

pub returns : goal.returns
returns c =
    let s = c in
    let w = c.loop-left in
    let g = s.args in
    let r = c.put_cells in
    poured_end g.loads.now g.cells.now g.stream.now g.start s.requires.0 s.requires.3 w.stream w.at w.bit w.held w.c w.invariant.1
    _ r.ensures.bytes (omega arith) (r.ensures.put ∙ rw (part g.loads.now w.c, part g.cells.now w.c) refl)
