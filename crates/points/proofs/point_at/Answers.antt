-- `points::point_at` meets its contract: the rule of the load. Assumes nothing.
use Prim.Native.Nat.{ℕ, suc, ◌≤◌, ◌+◌, ◌-◌, ◌/◌, ◌%◌, ◌^◌}
use mathlib.Core.Path.{◌≡◌, refl, sym, ap, ◌∙◌}
use native.Mathlib.Omega.{arith}
use native.Mathlib.Numerals.{add-one}
use native.Mathlib.Nat.{pow-suc}
use lib.IntN.{ℤ, pos}
use lib.Pow.{pow_mono}
use Rattle.gray.proofs.GrayLaws.{gray_in, gray_mod}
use Rattle.points.specs.Points.{at, even_point, odd_point}
use Rattle.points.proofs.Machine.{through, made, gray_fits}
use Rattle.points.proofs.PointLaws.{twice, odd_some, odd_most}
use Rattle.points.proofs.BackLaws.{covered, at_most, point_one, point_even, point_odd}
use Rattle.points.proofs.point_at.Goals as goal
use Rattle.points.proofs.point_at.Goals.{Start}

-- a listed load is at most 14
most : (c : Start) → c.args.load ≤ 14
most c = at_most c.args.load c.requires

pub returns-then-load-eq1 : goal.returns-then-load-eq1
returns-then-load-eq1 c =
    let m = c.args.load in
    let v = c.args.value in
    ap (λ (z : ℤ). at z (pos 0)) (through (gray_fits 1 v (omega arith)) c.gray_value-x.ensures) ∙ sym (point_one m v c.if-load-eq1.true)

pub gray_value-x-requires-then-load-eq0 : goal.gray_value-x-requires-then-load-eq0
gray_value-x-requires-then-load-eq0 c = omega (arith, most (goal.at.gray_value-x-requires-then-load-eq0 c).Start)

pub overflow_shr-value : goal.overflow_shr-value
overflow_shr-value c = omega (arith, most (goal.at.overflow_shr-value c).Start)

pub gray_value-y-requires : goal.gray_value-y-requires
gray_value-y-requires c = omega (arith, most (goal.at.gray_value-y-requires c).Start)

pub returns-then-load-eq0 : goal.returns-then-load-eq0
unfolding even_point
returns-then-load-eq0 c =
    let m = c.args.load in
    let v = c.args.value in
    let n = m / 2 in
    let h : n ≤ 7 = omega (arith, most (goal.at.returns-then-load-eq0 c).Start) in
    made (gray_fits n (v % 2 ^ n) h) (gray_fits n (v / 2 ^ n) h) (c.gray_value-x-then-load-eq0.ensures ∙ sym (gray_mod n v)) c.gray_value-y.ensures
    ∙ sym (point_even m v c.if-load-eq1.false c.if-load-eq0.true)

pub overflow_shr-value-2 : goal.overflow_shr-value-2
overflow_shr-value-2 c = omega (arith, most (goal.at.overflow_shr-value-2 c).Start)

pub gray_value-i-requires : goal.gray_value-i-requires
gray_value-i-requires c = omega (arith, most (goal.at.gray_value-i-requires c).Start)

pub gray_value-q-requires : goal.gray_value-q-requires
gray_value-q-requires c = omega (arith, most (goal.at.gray_value-q-requires c).Start)

pub power-requires : goal.power-requires
power-requires c = omega (arith, most (goal.at.power-requires c).Start)

pub crossed-requires : goal.crossed-requires
crossed-requires c =
    let m = c.args.load in
    let v = c.args.value in
    let n = m / 2 in
    let some = odd_some m (covered m c.requires).some c.if-load-eq1.false in
    let few = odd_most m (most (goal.at.crossed-requires c).Start) c.if-load-eq0.false in
    let i = through (gray_fits (n + 1) (v / 2 ^ n) (omega arith)) c.gray_value-i.ensures in
    let q = through (gray_fits n v (omega arith)) c.gray_value-q.ensures in
    let w = twice n some in
    let d = pow-suc 2 n in
    let e : n - 1 ≤ 5 = omega arith in
    let o : 2 ^ (n + 1) ≡ 2 ^ suc n = ap (λ (k : ℕ). 2 ^ k) (add-one n) in
    rw (i, q, c.power.ensures)
    (pow_mono e, omega (arith, gray_in (n + 1) (v / 2 ^ n)), omega (arith, gray_in n v))

pub returns : goal.returns
unfolding odd_point
returns c =
    let m = c.args.load in
    let v = c.args.value in
    let n = m / 2 in
    let few = odd_most m (most (goal.at.returns c).Start) c.if-load-eq0.false in
    let i = through (gray_fits (n + 1) (v / 2 ^ n) (omega arith)) c.gray_value-i.ensures in
    let q = through (gray_fits n (v % 2 ^ n) (omega arith)) (c.gray_value-q.ensures ∙ sym (gray_mod n v)) in
    c.crossed.ensures ∙ rw (i, q, c.power.ensures, add-one n) refl
    ∙ sym (point_odd m v c.if-load-eq1.false c.if-load-eq0.false)
