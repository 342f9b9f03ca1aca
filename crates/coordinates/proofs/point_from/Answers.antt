-- `coordinates::point_from` meets its contract: by the rule of the load. Assumes nothing.
use Prim.Native.Nat.{ℕ, suc, ◌+◌, ◌*◌, ◌/◌, ◌^◌, ◌<◌}
use mathlib.Core.Path.{◌≡◌, refl, sym, ap, ◌∙◌, subst}
use native.Mathlib.Omega.{arith}
use lib.IntN.{pos}
use lib.Ieee.{nan, of_bits, of_int, mul, binary32}
use lib.ListN.{get_or}
use Rattle.gray.specs.Gray.{gray}
use Rattle.points.specs.Points.{at, even_point, odd_point}
use Rattle.points.proofs.BackLaws.{point_one, point_even, point_odd}
use Rattle.scaling.specs.Scale.{scaled, scaled_point}
use Rattle.coordinates.proofs.Reading.{one_x, listed_even, listed_odd}
use Rattle.coordinates.proofs.point_from.Goals as goal
use Rattle.coordinates.proofs.point_from.Goals.{Then-load-eq1}

-- a value of one bit
bit : (c : Then-load-eq1) → c.args.value < 2
bit c = subst (λ (k : ℕ). c.args.value < 2 ^ k) c.if-load-eq1.true c.requires.2

zero : of_bits binary32 0 ≡ scaled 1 (pos 0)
unfolding scaled of_bits mul of_int
zero = refl

pub even_point-requires : goal.even_point-requires
even_point-requires c =
    let g = c in
    let m = g.args.load in
    let l = listed_even m g.requires.1 c.if-load-eq0.true in
    let e : m ≡ m / 2 + m / 2 = omega (arith, c.if-load-eq0.true) in
    (g.requires.0, l.0, l.1, subst (λ (k : ℕ). g.args.value < 2 ^ k) e g.requires.2)

pub returns-then-load-eq0 : goal.returns-then-load-eq0
returns-then-load-eq0 c =
    let g = c in
    let m = g.args.load in
    let v = g.args.value in
    let e : 2 * (m / 2) ≡ m = omega (arith, c.if-load-eq0.true) in
    c.even_point.ensures ∙ ap (λ (k : ℕ). scaled_point k (even_point (m / 2) v)) e
    ∙ ap (scaled_point m) (sym (point_even m v (λ z. omega (arith, c.if-load-eq0.true)) c.if-load-eq0.true))

pub bounds-t-value : goal.bounds-t-value
bounds-t-value c = omega (arith, bit c)

pub returns-then-load-eq1 : goal.returns-then-load-eq1
returns-then-load-eq1 c =
    let g = c in
    let m = g.args.load in
    let v = g.args.value in
    let ex = one_x v g.args.t.now g.requires.0 (bit (goal.at.returns-then-load-eq1 c).Then-load-eq1) in
    let read : record { x = get_or g.args.t.now v nan; y = of_bits binary32 0 } ≡ scaled_point 1 (at (gray 1 v) (pos 0)) = λ i. record { x = ex i; y = zero i } in
    read ∙ ap (λ (k : ℕ). scaled_point k (at (gray 1 v) (pos 0))) (sym c.if-load-eq1.true) ∙ ap (scaled_point m) (sym (point_one m v c.if-load-eq1.true))

pub odd_point-requires : goal.odd_point-requires
odd_point-requires c =
    let g = c in
    let m = g.args.load in
    let l = listed_odd m g.requires.1 c.if-load-eq0.false c.if-load-eq1.false in
    let e : m ≡ suc (m / 2) + m / 2 = omega (arith, l.2) in
    (g.requires.0, l.0, l.1, subst (λ (k : ℕ). g.args.value < 2 ^ k) e g.requires.2)

pub returns : goal.returns
returns c =
    let g = c in
    let m = g.args.load in
    let v = g.args.value in
    let l = listed_odd m g.requires.1 c.if-load-eq0.false c.if-load-eq1.false in
    c.odd_point.ensures ∙ ap (λ (k : ℕ). scaled_point k (odd_point (m / 2) v)) l.2
    ∙ ap (scaled_point m) (sym (point_odd m v c.if-load-eq1.false c.if-load-eq0.false))
