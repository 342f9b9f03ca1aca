-- `values::in_cross` meets its contract, test by test. Assumes nothing.
use Prim.Native.Nat.{◌*◌, ◌%◌}
use mathlib.Core.Path.{◌≡◌, refl}
use mathlib.Core.Bool.{true}
use lib.Dec.{eqb, ltb}
use lib.IntN.{nat_abs}
use borrow.Author.Tests.{eq-eqb, ne_eqb, lt-ltb, le-ltb}
use Rattle.gray.proofs.Signs.{known}
use Rattle.points.specs.Back.{in_cross}
use Rattle.values.proofs.in_cross.Goals as goal
use Rattle.values.proofs.in_cross.Goals.{After-magnitude-b, Else-a-ne1, Else-b-ne1, Else-s-a, Else-s-b}

-- what the two calls of `magnitude` say, and what the tests that a point passes
size_x : (c : After-magnitude-b) → c.magnitude-a.result ≡ nat_abs c.args.x
size_x c = known nat_abs c.args.x c.ranges.x c.magnitude-a.ensures

size_y : (c : After-magnitude-b) → c.magnitude-b.result ≡ nat_abs c.args.y
size_y c = known nat_abs c.args.y c.ranges.y c.magnitude-b.ensures

odd_x : (c : Else-a-ne1) → eqb (nat_abs c.args.x % 2) 1 ≡ true
odd_x c = eq-eqb (nat_abs c.args.x % 2) 1 (rw (known nat_abs c.args.x c.ranges.x c.magnitude-a.ensures) at c.if-a-ne1.false)

odd_y : (c : Else-b-ne1) → eqb (nat_abs c.args.y % 2) 1 ≡ true
odd_y c = eq-eqb (nat_abs c.args.y % 2) 1 (rw (known nat_abs c.args.y c.ranges.y c.magnitude-b.ensures) at c.if-b-ne1.false)

in_x : (c : Else-s-a) → ltb (nat_abs c.args.x) (3 * c.args.s) ≡ true
in_x c = lt-ltb _ _ (rw (known nat_abs c.args.x c.ranges.x c.magnitude-a.ensures) at c.if-s-a.false)

in_y : (c : Else-s-b) → ltb (nat_abs c.args.y) (3 * c.args.s) ≡ true
in_y c = lt-ltb _ _ (rw (known nat_abs c.args.y c.ranges.y c.magnitude-b.ensures) at c.if-s-b.false)

pub returns-then-a-ne1 : goal.returns-then-a-ne1
unfolding in_cross
returns-then-a-ne1 c = rw (ne_eqb (nat_abs c.args.x % 2) 1 (rw (size_x (goal.at.returns-then-a-ne1 c).After-magnitude-b) at c.if-a-ne1.true)) refl

pub returns-then-b-ne1 : goal.returns-then-b-ne1
unfolding in_cross
returns-then-b-ne1 c = rw (odd_x (goal.at.returns-then-b-ne1 c).Else-a-ne1, ne_eqb (nat_abs c.args.y % 2) 1 (rw (size_y (goal.at.returns-then-b-ne1 c).After-magnitude-b) at c.if-b-ne1.true)) refl

pub returns-then-s-a : goal.returns-then-s-a
unfolding in_cross
returns-then-s-a c = rw (odd_x (goal.at.returns-then-s-a c).Else-a-ne1, odd_y (goal.at.returns-then-s-a c).Else-b-ne1, le-ltb (nat_abs c.args.x) (3 * c.args.s) (rw (size_x (goal.at.returns-then-s-a c).After-magnitude-b) at c.if-s-a.true)) refl

pub returns-then-s-b : goal.returns-then-s-b
unfolding in_cross
returns-then-s-b c = rw (odd_x (goal.at.returns-then-s-b c).Else-a-ne1, odd_y (goal.at.returns-then-s-b c).Else-b-ne1, in_x (goal.at.returns-then-s-b c).Else-s-a, le-ltb (nat_abs c.args.y) (3 * c.args.s) (rw (size_y (goal.at.returns-then-s-b c).After-magnitude-b) at c.if-s-b.true)) refl

pub returns-then-a-s : goal.returns-then-a-s
unfolding in_cross
returns-then-a-s c = rw (odd_x (goal.at.returns-then-a-s c).Else-a-ne1, odd_y (goal.at.returns-then-a-s c).Else-b-ne1, in_x (goal.at.returns-then-a-s c).Else-s-a, in_y (goal.at.returns-then-a-s c).Else-s-b, lt-ltb (nat_abs c.args.x) (2 * c.args.s) (rw (size_x (goal.at.returns-then-a-s c).After-magnitude-b) at c.if-a-s.true)) refl

pub returns : goal.returns
unfolding in_cross
returns c = rw (size_y (goal.at.returns c).After-magnitude-b, odd_x (goal.at.returns c).Else-a-ne1, odd_y (goal.at.returns c).Else-b-ne1, in_x (goal.at.returns c).Else-s-a, in_y (goal.at.returns c).Else-s-b, le-ltb (nat_abs c.args.x) (2 * c.args.s) (rw (size_x (goal.at.returns c).After-magnitude-b) at c.if-a-s.false)) refl
