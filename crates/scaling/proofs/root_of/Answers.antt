-- `scaling::root_of` meets its contract: 22, else the number under the root. Assumes nothing.
use mathlib.Core.Path.{◌≡◌, refl, sym, ap, ◌∙◌}
use mathlib.Core.Bool.{true, false}
use Rattle.points.specs.Points.{load_listed}
use Rattle.points.proofs.BackLaws.{covered, at_most}
use Rattle.std.specs.Prelude.{Ok}
use Rattle.scaling.specs.Scale.{root_answer}
use Rattle.scaling.proofs.root_of.Goals as goal
use Rattle.scaling.proofs.root_of.Goals.{Else-not-load_listed}

-- where the load has been tried, it is listed
tried : (c : Else-not-load_listed) → load_listed c.args.load ≡ true
tried c = sym c.load_listed.ensures ∙ c.if-not-load_listed.false

pub returns-then-not-load_listed : goal.returns-then-not-load_listed
unfolding root_answer
returns-then-not-load_listed c =
    let m = c.args.load in
    let t : load_listed m ≡ false = sym c.load_listed.ensures ∙ c.if-not-load_listed.true in
    rw t refl

pub root_at-requires : goal.root_at-requires
root_at-requires c =
    let m = c.args.load in
    let t = tried c in
    ((covered m t).some, at_most m t)

pub returns : goal.returns
unfolding root_answer
returns c =
    let t = tried (goal.at.returns c).Else-not-load_listed in
    rw t (ap Ok c.root_at.ensures)
