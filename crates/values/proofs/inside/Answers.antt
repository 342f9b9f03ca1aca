-- `values::inside` meets its contract: the test of the load's rule. Assumes nothing.
use Prim.Native.Nat.{ℕ, ◌≤◌, ◌-◌, ◌/◌}
use mathlib.Core.Path.{◌≡◌, refl, sym, ap, ◌∙◌}
use mathlib.Core.Bool.{true, false}
use native.Mathlib.Omega.{arith}
use lib.IntN.{nat_abs}
use lib.Pow.{pow_mono}
use Rattle.gray.specs.Positions.{is_gray}
use Rattle.gray.proofs.Signs.{known}
use Rattle.points.specs.Points.{at}
use Rattle.points.specs.Back.{in_square, in_cross}
use Rattle.points.proofs.Machine.{known_point}
use Rattle.points.proofs.PointLaws.{odd_most}
use Rattle.points.proofs.BackLaws.{inside_one, inside_even, inside_odd}
use Rattle.values.proofs.inside.Goals as goal

pub returns-then-not-is_gray : goal.returns-then-not-is_gray
returns-then-not-is_gray c =
    let m = c.args.load in
    let x = c.args.x in
    let y = c.args.y in
    let fx = c.ranges.x in
    let t : is_gray 1 x ≡ false = sym (known (is_gray 1) x fx c.is_gray.ensures) ∙ c.if-not-is_gray.true in
    sym (inside_one m (at x y) c.if-load-eq1.true ∙ rw t refl)

pub returns-then-load-eq1 : goal.returns-then-load-eq1
returns-then-load-eq1 c =
    let m = c.args.load in
    let x = c.args.x in
    let y = c.args.y in
    let fx = c.ranges.x in
    let fy = c.ranges.y in
    let t : is_gray 1 x ≡ true = sym (known (is_gray 1) x fx c.is_gray.ensures) ∙ c.if-not-is_gray.false in
    rw (known nat_abs y fy c.magnitude.ensures) (sym (inside_one m (at x y) c.if-load-eq1.true ∙ rw t refl))

pub returns-then-not-is_gray-2 : goal.returns-then-not-is_gray-2
unfolding in_square
returns-then-not-is_gray-2 c =
    let m = c.args.load in
    let x = c.args.x in
    let y = c.args.y in
    let fx = c.ranges.x in
    let t : is_gray (m / 2) x ≡ false = sym (known (is_gray (m / 2)) x fx c.is_gray-then-load-eq0.ensures) ∙ c.if-not-is_gray-2.true in
    sym (inside_even m (at x y) c.if-load-eq1.false c.if-load-eq0.true ∙ rw t refl)

pub returns-then-load-eq0 : goal.returns-then-load-eq0
unfolding in_square
returns-then-load-eq0 c =
    let m = c.args.load in
    let x = c.args.x in
    let y = c.args.y in
    let fx = c.ranges.x in
    let fy = c.ranges.y in
    let t : is_gray (m / 2) x ≡ true = sym (known (is_gray (m / 2)) x fx c.is_gray-then-load-eq0.ensures) ∙ c.if-not-is_gray-2.false in
    known (is_gray (m / 2)) y fy c.is_gray-then-load-eq0-2.ensures
    ∙ sym (inside_even m (at x y) c.if-load-eq1.false c.if-load-eq0.true ∙ rw t refl)

pub in_cross-requires : goal.in_cross-requires
in_cross-requires c =
    let m = c.args.load in
    let p = c.requires in
    let e : m / 2 - 1 ≤ 5 = omega (arith, odd_most m p.1 c.if-load-eq0.false) in
    rw c.power.ensures (pow_mono e)

pub returns : goal.returns
returns c =
    let m = c.args.load in
    let x = c.args.x in
    let y = c.args.y in
    let fx = c.ranges.x in
    let fy = c.ranges.y in
    known_point (in_cross c.power.result) x y fx fy c.in_cross.ensures
    ∙ ap (λ (s : ℕ). in_cross s (at x y)) c.power.ensures
    ∙ sym (inside_odd m (at x y) c.if-load-eq1.false c.if-load-eq0.false)
