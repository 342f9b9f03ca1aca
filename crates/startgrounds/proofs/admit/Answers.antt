-- `startgrounds::admit` meets its contract: one law for each return. Assumes nothing.
use mathlib.Core.Path.{◌≡◌, sym, ◌∙◌, subst}
use Rattle.rules.specs.Refusals.{Verdict}
use Rattle.std.specs.Prelude.{Ok}
use Rattle.rules.specs.Grounds.{verdict}
use Rattle.verdicts.specs.Studied.{StudiedIf}
use Rattle.rules.proofs.Findings.{passed_on}
use Rattle.startgrounds.proofs.Starts.{by_plan, by_phase, by_none_of_16}
use Rattle.startgrounds.proofs.admit.Goals as goal
use Rattle.startgrounds.proofs.admit.Goals.{In_ok-n}

-- the plan is accepted
accepted : (c : In_ok-n) → Ok c.in_ok-n.n ≡ verdict c.args.d c.args.plan.now
accepted c = sym c.in_ok-n.was ∙ c.study.ensures.0

pub returns-then-phase-ge-PHASES : goal.returns-then-phase-ge-PHASES
returns-then-phase-ge-PHASES c =
    let a = c.args in
    record { answer = by_phase a.d a.plan.now a.phase _ (accepted (goal.at.returns-then-phase-ge-PHASES c).In_ok-n) c.if-phase-ge-PHASES.true; studied = tt }

pub returns-in_err-n : goal.returns-in_err-n
returns-in_err-n c =
    let a = c.args in
    rw (passed_on _ c.from_residual.ensures) (record { answer = by_plan a.d a.plan.now a.phase _ _ (sym c.in_err-n.was ∙ c.study.ensures.0); studied = tt })

pub returns : goal.returns
returns c =
    let a = c.args in
    let study = c.study in record { answer = by_none_of_16 a.d a.plan.now a.phase _ (accepted (goal.at.returns c).In_ok-n) c.if-phase-ge-PHASES.false; studied = subst (λ (v : Verdict). StudiedIf v a.d a.plan.now study.new.m) c.in_ok-n.was study.ensures.1 }
