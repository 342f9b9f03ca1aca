-- `points::point_of` meets its contract: 22, then 23. Assumes nothing.
use Prim.Native.Nat.{◌^◌}
use mathlib.Core.Path.{◌≡◌, refl, sym, ap, ◌∙◌}
use mathlib.Core.Bool.{true, false}
use borrow.Author.Tests.{lt-ltb, le-ltb}
use Rattle.std.specs.Prelude.{Ok}
use Rattle.points.specs.Points.{load_listed}
use Rattle.points.specs.Answers.{point_answer}
use Rattle.points.proofs.BackLaws.{at_most}
use Rattle.points.proofs.point_of.Goals as goal
use Rattle.points.proofs.point_of.Goals.{Else-not-load_listed}

-- where the load has been tried, it is listed
tried : (c : Else-not-load_listed) → load_listed c.args.load ≡ true
tried c = sym c.load_listed.ensures ∙ c.if-not-load_listed.false

pub returns-then-not-load_listed : goal.returns-then-not-load_listed
unfolding point_answer
returns-then-not-load_listed c =
    let m = c.args.load in
    let t : load_listed m ≡ false = sym c.load_listed.ensures ∙ c.if-not-load_listed.true in
    rw t refl

pub power-requires : goal.power-requires
power-requires c =
    let m = c.args.load in
    at_most m (tried c)

pub returns-then-power-value : goal.returns-then-power-value
unfolding point_answer
returns-then-power-value c =
    let m = c.args.load in
    let v = c.args.value in
    let t = tried (goal.at.returns-then-power-value c).Else-not-load_listed in
    rw (t, le-ltb v (2 ^ m) (rw c.power.ensures at c.if-power-value.true)) refl

pub point_at-requires : goal.point_at-requires
point_at-requires c =
    tried (goal.at.point_at-requires c).Else-not-load_listed

pub returns : goal.returns
unfolding point_answer
returns c =
    let m = c.args.load in
    let v = c.args.value in
    let t = tried (goal.at.returns c).Else-not-load_listed in
    rw (t, lt-ltb v (2 ^ m) (rw c.power.ensures at c.if-power-value.false)) (ap Ok c.point_at.ensures)
