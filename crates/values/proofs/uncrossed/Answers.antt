-- `values::uncrossed` meets its contract: the cross rule undone, case by case. Assumes nothing.
use Prim.Native.Nat.{◌*◌, ◌<◌}
use mathlib.Core.Path.{◌≡◌, refl, sym, ◌∙◌}
use native.Mathlib.Omega.{arith}
use lib.IntN.{nat_abs}
use mir.Syntax.{w32}
use mir.ValLaws.{to_z-of_z}
use Rattle.gray.proofs.Signs.{known}
use Rattle.points.specs.Points.{at}
use Rattle.points.proofs.Machine.{made}
use Rattle.points.proofs.CrossLaws.{in_cross_lem, un_stays, un_side, un_over}
use Rattle.values.proofs.uncrossed.Goals as goal
use Rattle.values.proofs.uncrossed.Goals.{After-magnitude-b, Start}

-- what the two calls of `magnitude` say, and how far out the point lies
size_x : (c : After-magnitude-b) → c.magnitude-a.result ≡ nat_abs c.args.x
size_x c = known nat_abs c.args.x c.ranges.x c.magnitude-a.ensures

size_y : (c : After-magnitude-b) → c.magnitude-b.result ≡ nat_abs c.args.y
size_y c = known nat_abs c.args.y c.ranges.y c.magnitude-b.ensures

in_x : (c : Start) → nat_abs c.args.x < 3 * c.args.s
in_x c = (in_cross_lem c.args.s (at c.args.x c.args.y) c.requires.1).in_x

in_y : (c : Start) → nat_abs c.args.y < 3 * c.args.s
in_y c = (in_cross_lem c.args.s (at c.args.x c.args.y) c.requires.1).in_y

pub returns-then-b-s : goal.returns-then-b-s
returns-then-b-s c =
    let s = c in
    made s.ranges.x s.ranges.y refl refl ∙ sym (un_stays s.args.s s.args.x s.args.y (rw (size_y (goal.at.returns-then-b-s c).After-magnitude-b) at c.if-b-s.true))

pub overflow_add-a : goal.overflow_add-a
overflow_add-a c = record { fits = omega (arith, size_x (goal.at.overflow_add-a c).After-magnitude-b, in_x (goal.at.overflow_add-a c).Start, c.requires.0) }

pub overflow_sub-s : goal.overflow_sub-s
overflow_sub-s c = omega (arith, size_y (goal.at.overflow_sub-s c).After-magnitude-b, in_y (goal.at.overflow_sub-s c).Start)

pub signed_point-requires : goal.signed_point-requires
signed_point-requires c =
    let s = c in
    (omega (arith, size_x (goal.at.signed_point-requires c).After-magnitude-b, in_x (goal.at.signed_point-requires c).Start, s.requires.0), omega (arith, s.requires.0))

pub returns-then-s-a : goal.returns-then-s-a
returns-then-s-a c =
    let k = c in
    let s = k in
    let a = size_x (goal.at.returns-then-s-a c).After-magnitude-b in
    let b = size_y (goal.at.returns-then-s-a c).After-magnitude-b in
    rw (to_z-of_z w32 s.args.x s.ranges.x, to_z-of_z w32 s.args.y s.ranges.y, a, b) at c.signed_point.ensures
    ∙ sym (un_side s.args.s s.args.x s.args.y (rw b at c.if-b-s.false) (rw a at c.if-s-a.true))

pub signed_point-requires-2 : goal.signed_point-requires-2
signed_point-requires-2 c =
    let s = c in
    (omega (arith, s.requires.0), omega (arith, size_y (goal.at.signed_point-requires-2 c).After-magnitude-b, in_y (goal.at.signed_point-requires-2 c).Start, s.requires.0))

pub returns : goal.returns
returns c =
    let k = c in
    let s = k in
    let a = size_x (goal.at.returns c).After-magnitude-b in
    let b = size_y (goal.at.returns c).After-magnitude-b in
    rw (to_z-of_z w32 s.args.x s.ranges.x, to_z-of_z w32 s.args.y s.ranges.y, a, b) at c.signed_point-2.ensures
    ∙ sym (un_over s.args.s s.args.x s.args.y (rw b at c.if-b-s.false) (rw a at c.if-s-a.false))
