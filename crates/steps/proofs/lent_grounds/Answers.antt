-- `steps::lent_grounds` meets its contract: one law for each return. Assumes nothing.
use mathlib.Core.Path.{sym, ◌∙◌}
use native.Mathlib.Omega.{arith}
use Rattle.rules.specs.Plan.{plan_of}
use Rattle.rules.specs.Frame.{frame_of}
use Rattle.steps.proofs.Lent.{bad_phase, bad_store, bad_room, all_lent}
use Rattle.steps.proofs.lent_grounds.Goals as goal

pub returns-then-phase-ge-PHASES : goal.returns-then-phase-ge-PHASES
unfolding frame_of
returns-then-phase-ge-PHASES c s y es ey =
    let a = c.args in
    bad_phase (frame_of a.d (plan_of a.plan.now)) a.phase a.need s y c.if-phase-ge-PHASES.true

pub returns-then-places-need : goal.returns-then-places-need
unfolding frame_of
returns-then-places-need c s y es ey =
    let a = c.args in
    bad_store (frame_of a.d (plan_of a.plan.now)) a.phase a.need s y c.if-phase-ge-PHASES.false (omega (arith, es, c.if-places-need.true))

pub returns-then-width-d : goal.returns-then-width-d
unfolding frame_of
returns-then-width-d c s y es ey =
    let a = c.args in
    bad_room (frame_of a.d (plan_of a.plan.now)) a.phase a.need s y c.if-phase-ge-PHASES.false (omega (arith, es, c.if-places-need.false)) (λ z. c.if-width-d.true (sym ey ∙ z))

pub returns : goal.returns
unfolding frame_of
returns c s y es ey =
    let a = c.args in
    all_lent (frame_of a.d (plan_of a.plan.now)) a.phase a.need s y c.if-phase-ge-PHASES.false (omega (arith, es, c.if-places-need.false)) (ey ∙ c.if-width-d.false)
