-- `trials::receiver_need` meets its contract. Assumes nothing.
use mathlib.Core.Path.{◌≡◌, sym, ap, ◌∙◌}
use native.Mathlib.Omega.{arith}
use Rattle.std.specs.Prelude.{Ok}
use Rattle.rules.specs.Device.{khz50}
use Rattle.rules.specs.Plan.{plan_of}
use Rattle.rules.specs.Grounds.{verdict}
use Rattle.rules.specs.Frame.{frame_of}
use Rattle.rules.specs.Store.{receiver_places}
use Rattle.places.proofs.Sizes.{receiver_places_are}
use Rattle.trials.specs.Parts.{needed}
use Rattle.trials.proofs.Needs.{Counted, counted}
use Rattle.trials.proofs.receiver_need.Goals as goal
use Rattle.trials.proofs.receiver_need.Goals.{After-number_at, In-Ok}

-- the plan is accepted
accepted : (c : In-Ok) → Ok c.in-Ok.n ≡ verdict khz50 c.args.plan.now
accepted c = sym c.in-Ok.is ∙ c.judge.ensures

known : (c : In-Ok) → Counted c.args.plan.now c.in-Ok.n
known c = counted c.args.plan.now c.in-Ok.n (accepted c)

-- the depth as it was read
deep : (c : After-number_at) → c.number_at.result ≡ (plan_of c.args.plan.now).depth
unfolding plan_of
deep c = c.number_at.ensures.0

pub number_at-requires : goal.number_at-requires
number_at-requires c = omega (arith, (known c).whole)

pub receiver_places-requires : goal.receiver_places-requires
receiver_places-requires c =
    let k = known (goal.at.receiver_places-requires c).In-Ok in
    (omega (arith, deep c, k.deep), omega (arith, deep c, k.shallow), k.few)

pub returns-in-Ok : goal.returns-in-Ok
returns-in-Ok c =
    let m = c in
    let s = m.args.plan.now in
    c.receiver_places.ensures
    ∙ receiver_places_are (frame_of khz50 (plan_of s)) m.number_at.result m.in-Ok.n (unfold frame_of in deep (goal.at.returns-in-Ok c).After-number_at) (known (goal.at.returns-in-Ok c).In-Ok).all
    ∙ ap (needed (receiver_places (frame_of khz50 (plan_of s)))) (accepted (goal.at.returns-in-Ok c).In-Ok)
