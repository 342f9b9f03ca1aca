-- `bitfill::fill_rest` meets its contract. Assumes nothing.
use Prim.Native.Nat.{ℕ, ◌+◌, ◌*◌, ◌≤◌, ◌<◌}
use mathlib.Core.Path.{◌≡◌, ◌∙◌}
use mathlib.Core.List.{List}
use native.Mathlib.Numerals.{add-one}
use native.Mathlib.Omega.{arith}
use lib.ListN.{length, get_or}
use Rattle.rules.specs.Bits.{filled_from}
use Rattle.bits.proofs.FillLaws.{length_filled}
use Rattle.bits.proofs.Windows.{total_suc, window_cell, place}
use Rattle.bitfill.proofs.Firsts.{first_next, first_all}
use Rattle.bitfill.proofs.fill_rest.Goals as goal
use Rattle.bitfill.proofs.fill_rest.Goals.{In-loop-c}

-- the cell at hand has a load, and its bits lie in the stream
good : (c : In-loop-c) → let g = c.args in let w = c.loop-c in
    (w.c < length g.loads.now) × (get_or g.loads.now w.c 0 ≤ 14) × (w.byte * 8 + w.o + get_or g.loads.now w.c 0 ≤ length g.stream.now * 8)
good c =
    let w = c.loop-c in
    let h : w.c < length c.args.loads.now = omega arith in
    let p = place c.args.loads.now c.args.stream.now c.args.start w.c w.byte w.o h c.requires.1 c.requires.2 w.invariant.place in
    (h, p.0, p.1)

pub window-requires : goal.window-requires
window-requires c = omega (arith, (good (goal.at.window-requires c).In-loop-c).2)

pub overflow_add-byte : goal.overflow_add-byte
overflow_add-byte c = omega (arith, (good (goal.at.overflow_add-byte c).In-loop-c).2)

pub loop-c-preserved : goal.loop-c-preserved
loop-c-preserved c =
    let w = c.loop-c in
    let ls = c.args.loads.now in
    let xs : List ℕ = filled_from ls c.args.stream.now c.args.start in
    let fits = good (goal.at.loop-c-preserved c).In-loop-c in
    let e : c.field.result ≡ get_or xs w.c 0 =
    c.field.ensures ∙ rw (c.window.ensures, c.number-l.ensures.0) (window_cell ls c.args.stream.now 32 c.args.start w.c w.byte w.o fits.0 w.invariant.place (omega (arith, fits.1))) in
    record {
      place = rw add-one (omega (arith, total_suc ls w.c fits.0));
      inner = omega arith;
      filled = first_next w.cells xs w.c _ (omega arith) (rw length_filled fits.0) w.invariant.filled e;
    }

pub returns : goal.returns
returns c =
    let w = c.loop-c in
    first_all w.cells _ w.c (omega (arith, length_filled c.args.loads.now c.args.stream.now c.args.start)) (omega arith) w.invariant.filled
