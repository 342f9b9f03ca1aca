-- `values::value_of` meets its contract: 22, then 24, else the one value. Assumes nothing.
use mathlib.Core.Path.{◌≡◌, refl, sym, ap, ◌∙◌}
use mathlib.Core.Bool.{true, false}
use Rattle.std.specs.Prelude.{Ok}
use Rattle.points.specs.Points.{at, load_listed}
use Rattle.values.specs.Answers.{value_answer}
use Rattle.points.specs.Back.{inside, back}
use Rattle.points.proofs.Machine.{made, known_point}
use Rattle.points.proofs.BackLaws.{covered, at_most}
use Rattle.values.proofs.ValueLaws.{one_value, no_value}
use Rattle.values.proofs.value_of.Goals as goal
use Rattle.values.proofs.value_of.Goals.{After-inside, Else-not-load_listed}

-- where the load has been tried, it is listed
tried : (c : Else-not-load_listed) → load_listed c.args.load ≡ true
tried c = sym c.load_listed.ensures ∙ c.if-not-load_listed.false

-- what `inside` says of the point
asked : (c : After-inside) → c.inside.result ≡ inside c.args.load (at c.args.x c.args.y)
asked c =
    let s = c in
    known_point (inside s.args.load) s.args.x s.args.y s.ranges.x s.ranges.y c.inside.ensures

pub returns-then-not-load_listed : goal.returns-then-not-load_listed
unfolding value_answer
returns-then-not-load_listed c =
    let m = c.args.load in
    let t : load_listed m ≡ false = sym c.load_listed.ensures ∙ c.if-not-load_listed.true in
    rw t refl

pub inside-requires : goal.inside-requires
inside-requires c =
    let m = c.args.load in
    let t = tried c in
    ((covered m t).some, at_most m t)

pub returns-then-not-inside : goal.returns-then-not-inside
unfolding value_answer
returns-then-not-inside c =
    let m = c.args.load in
    let x = c.args.x in
    let y = c.args.y in
    let t = tried (goal.at.returns-then-not-inside c).Else-not-load_listed in
    let i = sym (asked (goal.at.returns-then-not-inside c).After-inside) ∙ c.if-not-inside.true in
    rw (t, no_value m (at x y) (covered m t) i) refl

pub back-requires : goal.back-requires
back-requires c =
    let m = c.args.load in
    let fx = c.ranges.x in
    let fy = c.ranges.y in
    let t = tried (goal.at.back-requires c).Else-not-load_listed in
    let i = sym (asked (goal.at.back-requires c).After-inside) ∙ c.if-not-inside.false in
    (t, ap (inside m) (made fx fy refl refl) ∙ i)

pub returns : goal.returns
unfolding value_answer
returns c =
    let m = c.args.load in
    let x = c.args.x in
    let y = c.args.y in
    let fx = c.ranges.x in
    let fy = c.ranges.y in
    let t = tried (goal.at.returns c).Else-not-load_listed in
    let i = sym (asked (goal.at.returns c).After-inside) ∙ c.if-not-inside.false in
    rw (t, one_value m (at x y) (covered m t) i) (ap Ok (known_point (back m) x y fx fy c.back.ensures))
