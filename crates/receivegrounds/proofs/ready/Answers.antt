-- `receivegrounds::ready` meets its contract: heard, and then what every step asks for. Assumes nothing.
use Prim.Native.Nat.{ℕ, ◌+◌, ◌-◌, ◌%◌}
use mathlib.Core.Path.{◌≡◌, refl, ap, ◌∙◌}
use native.Mathlib.Omega.{arith}
use Rattle.rules.specs.Device.{phases}
use Rattle.rules.specs.Plan.{plan_of}
use Rattle.rules.specs.Frame.{frame_of}
use Rattle.rules.specs.Store.{receiver_places}
use Rattle.rules.specs.Receive.{out_phase}
use Rattle.places.proofs.Sizes.{receiver_places_are}
use Rattle.steps.proofs.Accepted.{cells_low}
use Rattle.receiving.proofs.Answers.{at}
use Rattle.receivegrounds.proofs.Stages.{no_count, prepared, heard_out, heard_in}
use Rattle.receivegrounds.proofs.ready.Goals as goal
use Rattle.receivegrounds.proofs.ready.Goals.{After-out_phase-back, After-receiver_places-need}

-- the phase of the symbol that is handed out
back : (c : After-out_phase-back) → c.out_phase-back.result ≡ out_phase ((frame_of c.args.d (plan_of c.args.plan.now))) c.args.state.phase
unfolding frame_of
back c = c.out_phase-back.ensures ∙ ap (λ (m : ℕ). (c.args.state.phase + (phases - (m - 1))) % phases) c.requires.1

-- the places that the store needs
need : (c : After-receiver_places-need) → c.receiver_places-need.result ≡ receiver_places ((frame_of c.args.d (plan_of c.args.plan.now)))
unfolding frame_of
need c = let g = c in c.receiver_places-need.ensures ∙ receiver_places_are ((frame_of g.args.d (plan_of g.args.plan.now))) _ _ g.requires.1 g.requires.0.all

pub returns-then-m-state : goal.returns-then-m-state
unfolding frame_of
returns-then-m-state c =
    let g = c in
    record { answer = λ s y es ey. heard_out ((frame_of g.args.d (plan_of g.args.plan.now))) (at g.args.state s) y (omega (arith, c.if-m-state.true, g.requires.1)); made = λ nd e. absurd (no_count _ _ _ e) }

pub out_phase-back-requires : goal.out_phase-back-requires
out_phase-back-requires c = let g = c in (omega (arith, g.requires.1, g.requires.0.deep), omega (arith, g.requires.1, g.requires.0.shallow))

pub receiver_places-need-requires : goal.receiver_places-need-requires
receiver_places-need-requires c =
    let g = c in
    let r = g.requires.0 in
    (omega (arith, g.requires.1, r.deep), omega (arith, g.requires.1, r.shallow), omega (arith, r.all, cells_low g.args.d (plan_of g.args.plan.now) r.fits))

pub slice_bounds-ready-end : goal.slice_bounds-ready-end
slice_bounds-ready-end c = refl

pub ready-requires : goal.ready-requires
ready-requires c =
    let pre = c.requires in
    (pre.0, pre.1, λ h. omega (arith, c.out_phase-back.ensures), refl, pre.2)

pub shape_of-kc : goal.shape_of-kc
shape_of-kc c = c.ready.auto.kc

pub shape_of-flag : goal.shape_of-flag
shape_of-flag c = c.ready.auto.flag

pub returns : goal.returns
unfolding frame_of
returns c =
    let g = c in
    let made = c.ready.ensures in
    let kept = c.ready.auto in record { answer = λ s y es ey. made.answer s y es ey ∙ heard_in ((frame_of g.args.d (plan_of g.args.plan.now))) (at g.args.state s) y (omega (arith, c.if-m-state.false, g.requires.1)) _ _ (need (goal.at.returns c).After-receiver_places-need) (back (goal.at.returns c).After-out_phase-back); made = λ nd e. prepared ((frame_of g.args.d (plan_of g.args.plan.now))) _ _ nd _ _ _ _ (back (goal.at.returns c).After-out_phase-back) e made.made g.requires.0.shallow (omega (arith, kept.kc, g.requires.0.all)) (omega (arith, kept.flag, g.requires.0.all, g.requires.2)) }
