-- `values::back` meets its contract: the load's rule undone. Assumes nothing.
use Prim.Native.Nat.{ℕ, suc, ◌≤◌, ◌-◌, ◌/◌, ◌^◌}
use mathlib.Core.Path.{sym, ap, ◌∙◌}
use native.Mathlib.Omega.{arith}
use native.Mathlib.Numerals.{add-one}
use lib.Dec.{eqb}
use lib.IntN.{nat_abs}
use lib.Pow.{pow_mono}
use mir.Syntax.{w32}
use mir.ValLaws.{to_z-of_z}
use Rattle.counting.proofs.Bools.{and_left}
use Rattle.gray.specs.Positions.{is_gray, bits_of}
use Rattle.gray.proofs.Signs.{known}
use Rattle.points.specs.declared.Point.{Point}
use Rattle.points.specs.Points.{at}
use Rattle.points.specs.Back.{uncross, unsquare, unrectangle}
use Rattle.points.proofs.Machine.{small_fits, through, known_point}
use Rattle.points.proofs.PointLaws.{gray_value_in, square_x, square_y, rectangle_x, rectangle_y, odd_most}
use Rattle.points.proofs.BackLaws.{covered, at_most, some_even, some_odd, inside_one, inside_even, inside_odd, back_one, back_even, back_odd_bits}
use Rattle.values.proofs.back.Goals as goal

pub gray_bits-requires : goal.gray_bits-requires
gray_bits-requires c =
    let m = c.args.load in
    let x = c.args.x in
    let y = c.args.y in
    let fx = c.ranges.x in
    let p = c.requires in
    let t = and_left (is_gray 1 x) (eqb (nat_abs y) 0) (sym (inside_one m (at x y) c.if-load-eq1.true) ∙ p.1) in
    (omega arith, rw (to_z-of_z w32 x fx) (gray_value_in 1 x t))

pub returns-then-load-eq1 : goal.returns-then-load-eq1
returns-then-load-eq1 c =
    let m = c.args.load in
    let x = c.args.x in
    let y = c.args.y in
    let fx = c.ranges.x in
    known (bits_of 1) x fx c.gray_bits.ensures ∙ sym (back_one m (at x y) c.if-load-eq1.true)

pub joined-requires : goal.joined-requires
joined-requires c =
    let m = c.args.load in
    let x = c.args.x in
    let y = c.args.y in
    let fx = c.ranges.x in
    let fy = c.ranges.y in
    let p = c.requires in
    let n = m / 2 in
    let some = some_even m (covered m p.0) c.if-load-eq0.true in
    let t = sym (inside_even m (at x y) c.if-load-eq1.false c.if-load-eq0.true) ∙ p.1 in
    let l : n ≤ 7 = omega (arith, at_most m p.0) in
    (l, rw (to_z-of_z w32 y fy) (square_y n some (at x y) t), l, rw (to_z-of_z w32 x fx) (square_x n some (at x y) t))

pub returns-then-load-eq0 : goal.returns-then-load-eq0
unfolding unsquare
returns-then-load-eq0 c =
    let m = c.args.load in
    let x = c.args.x in
    let y = c.args.y in
    let fx = c.ranges.x in
    let fy = c.ranges.y in
    let n = m / 2 in
    rw (to_z-of_z w32 y fy, to_z-of_z w32 x fx) at c.joined.ensures
    ∙ sym (back_even m (at x y) c.if-load-eq1.false c.if-load-eq0.true)

pub power-requires : goal.power-requires
power-requires c =
    let m = c.args.load in
    let p = c.requires in
    omega (arith, at_most m p.0)

pub uncrossed-r-requires : goal.uncrossed-r-requires
uncrossed-r-requires c =
    let m = c.args.load in
    let x = c.args.x in
    let y = c.args.y in
    let fx = c.ranges.x in
    let fy = c.ranges.y in
    let p = c.requires in
    let n = m / 2 in
    let h = covered m p.0 in
    let one = c.if-load-eq1.false in
    let two = c.if-load-eq0.false in
    let some = some_odd m h one two in
    let most = odd_most m (at_most m p.0) two in
    let t = sym (inside_odd m (at x y) one two) ∙ p.1 in
    let e : n - 1 ≤ 5 = omega arith in
    rw (c.power.ensures, to_z-of_z w32 x fx, to_z-of_z w32 y fy) (pow_mono e, t)

pub joined-requires-2 : goal.joined-requires-2
joined-requires-2 c =
    let m = c.args.load in
    let x = c.args.x in
    let y = c.args.y in
    let fx = c.ranges.x in
    let fy = c.ranges.y in
    let p = c.requires in
    let n = m / 2 in
    let h = covered m p.0 in
    let one = c.if-load-eq1.false in
    let two = c.if-load-eq0.false in
    let some = some_odd m h one two in
    let most = odd_most m (at_most m p.0) two in
    let t = sym (inside_odd m (at x y) one two) ∙ p.1 in
    let r = uncross (2 ^ (n - 1)) (at x y) in
    let u = known_point (uncross c.power.result) x y fx fy c.uncrossed-r.ensures ∙ ap (λ (s : ℕ). uncross s (at x y)) c.power.ensures in
    let bx = rectangle_x n some (at x y) t in
    let by = rectangle_y n some (at x y) t in
    let most-x : suc n ≤ 7 = omega arith in
    let ux = through (small_fits r.x (omega (arith, bx, pow_mono most-x))) (ap (λ (q : Point). q.x) u) in
    let uy = through (small_fits r.y (omega (arith, by, pow_mono most))) (ap (λ (q : Point). q.y) u) in
    (omega arith, rw (ux, add-one n) bx, omega arith, rw uy by)

pub returns : goal.returns
unfolding unrectangle
returns c =
    let m = c.args.load in
    let x = c.args.x in
    let y = c.args.y in
    let fx = c.ranges.x in
    let fy = c.ranges.y in
    let p = c.requires in
    let n = m / 2 in
    let h = covered m p.0 in
    let one = c.if-load-eq1.false in
    let two = c.if-load-eq0.false in
    let some = some_odd m h one two in
    let most = odd_most m (at_most m p.0) two in
    let t = sym (inside_odd m (at x y) one two) ∙ p.1 in
    let r = uncross (2 ^ (n - 1)) (at x y) in
    let u = known_point (uncross c.power.result) x y fx fy c.uncrossed-r.ensures ∙ ap (λ (s : ℕ). uncross s (at x y)) c.power.ensures in
    let bx = rectangle_x n some (at x y) t in
    let by = rectangle_y n some (at x y) t in
    let most-x : suc n ≤ 7 = omega arith in
    let ux = through (small_fits r.x (omega (arith, bx, pow_mono most-x))) (ap (λ (q : Point). q.x) u) in
    let uy = through (small_fits r.y (omega (arith, by, pow_mono most))) (ap (λ (q : Point). q.y) u) in
    rw (ux, uy, add-one n) at c.joined-2.ensures ∙ sym (back_odd_bits m (at x y) one two)
