-- `points::crossed` meets its contract: the cross rule, case by case. Assumes nothing.
use mathlib.Core.Path.{◌≡◌, refl, sym, ◌∙◌}
use native.Mathlib.Omega.{arith}
use lib.IntN.{nat_abs}
use mir.Syntax.{w32}
use mir.ValLaws.{to_z-of_z}
use Rattle.gray.proofs.Signs.{known}
use Rattle.points.proofs.Machine.{made}
use Rattle.points.proofs.CrossLaws.{stays, side, over}
use Rattle.points.proofs.crossed.Goals as goal
use Rattle.points.proofs.crossed.Goals.{After-magnitude-b}

-- what the two calls of `magnitude` say
size_i : (c : After-magnitude-b) → c.magnitude-a.result ≡ nat_abs c.args.i
size_i c = known nat_abs c.args.i c.ranges.i c.magnitude-a.ensures

size_q : (c : After-magnitude-b) → c.magnitude-b.result ≡ nat_abs c.args.q
size_q c = known nat_abs c.args.q c.ranges.q c.magnitude-b.ensures

pub returns-then-a-s : goal.returns-then-a-s
returns-then-a-s c =
    let s = c in
    made s.ranges.i s.ranges.q refl refl ∙ sym (stays s.args.s s.args.i s.args.q (rw (size_i (goal.at.returns-then-a-s c).After-magnitude-b) at c.if-a-s.true))

pub overflow_sub-s : goal.overflow_sub-s
overflow_sub-s c = omega (arith, size_q (goal.at.overflow_sub-s c).After-magnitude-b, c.requires.2)

pub signed_point-requires : goal.signed_point-requires
signed_point-requires c =
    let s = c in
    (omega (arith, size_i (goal.at.signed_point-requires c).After-magnitude-b, s.requires.0, s.requires.1), omega (arith, s.requires.0))

pub returns-then-s-b : goal.returns-then-s-b
returns-then-s-b c =
    let k = c in
    let s = k in
    let a = size_i (goal.at.returns-then-s-b c).After-magnitude-b in
    let b = size_q (goal.at.returns-then-s-b c).After-magnitude-b in
    rw (to_z-of_z w32 s.args.i s.ranges.i, to_z-of_z w32 s.args.q s.ranges.q, a, b) at c.signed_point.ensures
    ∙ sym (side s.args.s s.args.i s.args.q (rw a at c.if-a-s.false) (rw b at c.if-s-b.true))

pub overflow_sub-s-2 : goal.overflow_sub-s-2
overflow_sub-s-2 c = omega (arith, size_i (goal.at.overflow_sub-s-2 c).After-magnitude-b, c.requires.1)

pub returns : goal.returns
returns c =
    let k = c in
    let s = k in
    let a = size_i (goal.at.returns c).After-magnitude-b in
    let b = size_q (goal.at.returns c).After-magnitude-b in
    rw (to_z-of_z w32 s.args.i s.ranges.i, to_z-of_z w32 s.args.q s.ranges.q, a, b) at c.signed_point-2.ensures
    ∙ sym (over s.args.s s.args.i s.args.q (rw a at c.if-a-s.false) (rw b at c.if-s-b.false))
