-- `filling::measure` meets its contract. One law for each return. Assumes nothing.
use mathlib.Core.Path.{◌≡◌, sym, ◌∙◌, subst}
use native.Mathlib.Omega.{arith}
use Rattle.rules.specs.Refusals.{Verdict}
use Rattle.rules.proofs.Findings.{passed_on}
use Rattle.std.specs.Prelude.{Ok}
use Rattle.rules.specs.Frame.{frame_of}
use Rattle.rules.specs.Loads.{ground25}
use Rattle.verdicts.specs.Studied.{StudiedIf}
use Rattle.verdicts.proofs.Verdicts.{first_ground}
use Rattle.steps.specs.Ready.{Ready}
use Rattle.steps.proofs.Accepted.{ready}
use Rattle.filling.proofs.Measures.{by_plan, by_profile, by_phase}
use Rattle.filling.proofs.measure.Goals as goal
use Rattle.filling.proofs.measure.Goals.{In_ok-n, In_ok-profile_ground}

-- the plan is ready for the step
accepted : (c : In_ok-n) → let a = c.args in Ready a.d a.plan.now c.in_ok-n.n c.study.new.m
accepted c =
    let g = c in
    let study = c.study in
    ready g.args.d g.args.plan.now _ _ g.requires.0 g.requires.1 (sym c.in_ok-n.was ∙ study.ensures.0) (subst (λ (v : Verdict). StudiedIf v g.args.d g.args.plan.now study.new.m) c.in_ok-n.was study.ensures.1)

-- ground 25 does not refuse the profile
listed : (c : In_ok-profile_ground) → ground25 c.args.d.subcarriers c.args.profile.now ≡ (Ok tt)
listed c = sym c.profile_ground.ensures ∙ c.in_ok-profile_ground.was

pub returns-in_err-profile_ground : goal.returns-in_err-profile_ground
unfolding frame_of
returns-in_err-profile_ground c =
    let a = c.args in
    rw (passed_on _ c.from_residual-in_err-profile_ground.ensures) (record { answer = by_profile a.d a.plan.now a.profile.now a.phase a.number a.bytes a.start (accepted (goal.at.returns-in_err-profile_ground c).In_ok-n).fine _ _ (sym c.profile_ground.ensures ∙ c.in_err-profile_ground.was); made = tt })

pub returns-then-j-ge-PHASES : goal.returns-then-j-ge-PHASES
unfolding frame_of
returns-then-j-ge-PHASES c =
    let a = c.args in
    record { answer = by_phase a.d a.plan.now a.profile.now a.phase a.number a.bytes a.start (accepted (goal.at.returns-then-j-ge-PHASES c).In_ok-n).fine (listed (goal.at.returns-then-j-ge-PHASES c).In_ok-profile_ground) c.if-j-ge-PHASES.true; made = tt }

pub measure_at-requires : goal.measure_at-requires
measure_at-requires c =
    let g = c in
    (accepted (goal.at.measure_at-requires c).In_ok-n, listed (goal.at.measure_at-requires c).In_ok-profile_ground, omega (arith, c.if-j-ge-PHASES.false), g.requires.2)

pub returns-in_err-n : goal.returns-in_err-n
returns-in_err-n c =
    let a = c.args in
    rw (passed_on _ c.from_residual.ensures) (record { answer = by_plan a.d a.plan.now a.profile.now a.phase a.number a.bytes a.start _ _ (first_ground a.d a.plan.now _ _ (sym c.in_err-n.was ∙ c.study.ensures.0)); made = tt })

pub returns : goal.returns
returns c = record { answer = c.measure_at.ensures.answer; made = c.measure_at.ensures.made }
