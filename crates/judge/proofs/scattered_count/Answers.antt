-- `judge::scattered_count` meets its contract. Assumes nothing.
use mathlib.Core.Path.{◌≡◌, refl, sym, ap, ◌∙◌, subst}
use native.Mathlib.Omega.{arith}
use Rattle.rules.specs.declared.Device.{Device}
use Rattle.rules.specs.Refusals.{Verdict}
use Rattle.std.specs.Prelude.{Ok}
use Rattle.rules.specs.Device.{khz50}
use Rattle.rules.specs.Plan.{plan_of}
use Rattle.rules.specs.Roles.{scattered_count}
use Rattle.rules.specs.Grounds.{verdict}
use Rattle.rules.specs.Fits.{Fits}
use Rattle.rules.proofs.Sizes.{khz50_fits}
use Rattle.verdicts.specs.Studied.{Studied, StudiedIf}
use Rattle.judge.proofs.EntryAnswers.{count_refused, count_late, count_left}
use Rattle.rules.proofs.Findings.{passed_on}
use Rattle.judge.proofs.scattered_count.Goals as goal
use Rattle.judge.proofs.scattered_count.Goals.{In_ok-study}

-- what is known of an accepted plan
studied : (c : In_ok-study) → Studied c.khz50_device-d.result c.args.plan.now c.study.new.m
studied c = subst (λ (v : Verdict). StudiedIf v c.khz50_device-d.result c.args.plan.now c.study.new.m) c.in_ok-study.was c.study.ensures.1

-- the verdict of the 50 kHz device
judged : (c : In_ok-study) → c.study.result ≡ verdict khz50 c.args.plan.now
judged c = c.study.ensures.0 ∙ ap (λ (d : Device). verdict d c.args.plan.now) c.khz50_device-d.ensures

pub study-requires : goal.study-requires
study-requires c = (subst Fits (sym c.khz50_device-d.ensures) khz50_fits, refl)

pub returns-in_err-study : goal.returns-in_err-study
returns-in_err-study c =
    let g = c in
    rw (passed_on _ c.from_residual.ensures) (count_refused khz50 g.args.plan.now g.args.phase _ (sym c.in_err-study.was ∙ c.study.ensures.0 ∙ ap (λ (d : Device). verdict d g.args.plan.now) c.khz50_device-d.ensures))

pub returns-then-j-ge-PHASES : goal.returns-then-j-ge-PHASES
returns-then-j-ge-PHASES c =
    let g = c in
    count_late khz50 g.args.plan.now g.args.phase _ (sym c.in_ok-study.was ∙ judged (goal.at.returns-then-j-ge-PHASES c).In_ok-study) c.if-j-ge-PHASES.true

pub number_at-l-requires : goal.number_at-l-requires
number_at-l-requires c = let w = studied (goal.at.number_at-l-requires c).In_ok-study in omega (arith, w.long)

pub count_scattered-requires : goal.count_scattered-requires
count_scattered-requires c =
    let w = studied (goal.at.count_scattered-requires c).In_ok-study in
    (subst Fits (sym c.khz50_device-d.ensures) khz50_fits, w, unfold plan_of in c.number_at-l.ensures.0, omega (arith, c.if-j-ge-PHASES.false))

pub returns : goal.returns
returns c =
    let g = c in
    ap Ok (c.count_scattered.ensures ∙ ap (λ (d : Device). scattered_count d (plan_of g.args.plan.now) g.args.phase) c.khz50_device-d.ensures)
    ∙ count_left khz50 g.args.plan.now g.args.phase _ (sym c.in_ok-study.was ∙ judged (goal.at.returns c).In_ok-study) (omega (arith, c.if-j-ge-PHASES.false))
