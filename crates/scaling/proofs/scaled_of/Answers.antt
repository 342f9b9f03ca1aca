-- `scaling::scaled_of` meets its contract: 22, then 23. Assumes nothing.
use mathlib.Core.Path.{◌≡◌, refl, sym, ap, ◌∙◌}
use mathlib.Core.Bool.{true}
use Rattle.points.specs.Points.{load_listed}
use Rattle.points.proofs.BackLaws.{at_most}
use Rattle.std.specs.Prelude.{Ok}
use Rattle.scaling.specs.Scale.{scaled_answer, near_answer}
use Rattle.scaling.proofs.NearLaws.{near_scaled, scaled_22, scaled_23, scaled_at}
use Rattle.scaling.proofs.scaled_of.Goals as goal
use Rattle.scaling.proofs.scaled_of.Goals.{Else-not-load_listed}

-- where the load has been tried, it is listed
tried : (c : Else-not-load_listed) → load_listed c.args.load ≡ true
tried c = sym c.load_listed.ensures ∙ c.if-not-load_listed.false

pub returns-then-not-load_listed : goal.returns-then-not-load_listed
returns-then-not-load_listed c =
    let m = c.args.load in
    let v = c.args.value in
    record { answer = sym (scaled_22 m v (sym c.load_listed.ensures ∙ c.if-not-load_listed.true)); near = refl }

pub power-requires : goal.power-requires
power-requires c =
    let m = c.args.load in
    let t = tried c in
    at_most m t

pub returns-then-power-value : goal.returns-then-power-value
returns-then-power-value c =
    let m = c.args.load in
    let v = c.args.value in
    let t = tried (goal.at.returns-then-power-value c).Else-not-load_listed in
    record { answer = sym (scaled_23 m v t (rw c.power.ensures at c.if-power-value.true)); near = refl }

pub scaled_at-requires : goal.scaled_at-requires
scaled_at-requires c =
    let t = tried (goal.at.scaled_at-requires c).Else-not-load_listed in
    t

pub returns : goal.returns
returns c =
    let m = c.args.load in
    let v = c.args.value in
    let t = tried (goal.at.returns c).Else-not-load_listed in
    let e : Ok c.scaled_at.result ≡ scaled_answer m v = ap Ok c.scaled_at.ensures ∙ sym (scaled_at m v t (rw c.power.ensures at c.if-power-value.false)) in
    record { answer = e; near = ap (near_answer m v) e ∙ near_scaled m v }
