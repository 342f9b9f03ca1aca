-- `bitfill::fill_from` meets its contract. The cells below c are filled, and `left` bits are left. Assumes nothing.
use Prim.Native.Nat.{ℕ, ◌+◌, ◌/◌, ◌%◌, ◌^◌, ◌≤◌}
use mathlib.Core.Path.{◌≡◌, refl, ap, ◌∙◌}
use mathlib.Core.List.{List}
use native.Mathlib.Numerals.{add-one}
use native.Mathlib.Omega.{arith}
use lib.ListN.{length, get_or, take}
use Rattle.rules.specs.Bits.{total, filled_from}
use Rattle.bits.proofs.FillLaws.{length_filled}
use Rattle.bits.proofs.Windows.{total_suc, window_cell, five_left}
use Rattle.bitfill.proofs.Firsts.{first_two}
use Rattle.bitfill.proofs.fill_from.Goals as goal
use Rattle.bitfill.proofs.fill_from.Goals.{In-loop-left}

-- five cells are left, and eight bytes of the stream
good : (c : In-loop-left) → let g = c.args in let w = c.loop-left in (w.c + 5 ≤ length g.loads.now) × (w.at + 8 ≤ length g.stream.now)
good c =
    let s = c in
    let w = c.loop-left in
    (five_left s.args.loads.now w.c s.requires.1 w.invariant.1 (omega arith), omega (arith, s.requires.3))

pub loop-left-init : goal.loop-left-init
loop-left-init c = let s = c in (unfold total in (omega (arith, s.requires.2)), omega arith, unfold total in (omega arith), omega arith, refl, refl)

pub fill_two-l-requires : goal.fill_two-l-requires
fill_two-l-requires c = let g = (good (goal.at.fill_two-l-requires c).In-loop-left).0 in (omega (arith, g), omega (arith, g), c.requires.1, c.loop-left.invariant.3)

pub loop-left-preserved : goal.loop-left-preserved
loop-left-preserved c =
    let i = c in
    let s = i in
    let g = s.args in
    let w = i.loop-left in
    let ls = g.loads.now in
    let xs : List ℕ = filled_from ls g.stream.now g.start in
    let h = (good (goal.at.loop-left-preserved c).In-loop-left).0 in
    let f = c.fill_two-l.ensures in
    let t1 : total (take (w.c + 1) ls) ≡ total (take w.c ls) + get_or ls w.c 0 = rw add-one (total_suc ls w.c (omega (arith, h))) in
    let n : w.c + 2 ≡ w.c + 1 + 1 = omega arith in
    let t2 : total (take (w.c + 2) ls) ≡ total (take (w.c + 1) ls) + get_or ls (w.c + 1) 0 = rw (n, add-one (w.c + 1)) (total_suc ls (w.c + 1) (omega (arith, h))) in
    let l = s.requires.1 w.c (omega (arith, h)) in
    let m = s.requires.1 (w.c + 1) (omega (arith, h)) in
    let e = c.eight_at-w.ensures in
    let v = c.eight_at-w.result in
    let x : v / 2 ^ w.bit % 2 ^ get_or ls w.c 0 ≡ get_or xs w.c 0 = rw e (window_cell ls g.stream.now 64 g.start w.c w.at w.bit (omega (arith, h)) w.invariant.2 (omega (arith, l, w.invariant.3))) in
    let y : v / 2 ^ (w.bit + get_or ls w.c 0) % 2 ^ get_or ls (w.c + 1) 0 ≡ get_or xs (w.c + 1) 0 = rw e (window_cell ls g.stream.now 64 g.start (w.c + 1) w.at (w.bit + get_or ls w.c 0) (omega (arith, h)) (omega (arith, t1, w.invariant.2)) (omega (arith, l, m, w.invariant.3))) in (
      omega (arith, t1, t2, f.taken, w.invariant.0, i.loop-left-test.true),
      omega (arith, h),
      omega (arith, t1, t2, f.taken, w.invariant.2),
      omega arith,
      omega arith,
      ap (take (w.c + 2)) f.filled ∙ first_two w.cells xs w.c _ _ (omega (arith, h)) (rw length_filled (omega (arith, h))) w.invariant.5 x y,
    )
