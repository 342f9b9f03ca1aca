-- `judge::role` meets its contract. Assumes nothing.
use mathlib.Core.Path.{refl, sym, ap, ◌∙◌, subst}
use Rattle.rules.specs.declared.Device.{Device}
use Rattle.rules.specs.Fits.{Fits}
use Rattle.rules.proofs.Sizes.{khz50_fits}
use Rattle.rules.specs.Refusals.{Verdict}
use Rattle.rules.specs.Device.{khz50}
use Rattle.rules.specs.Grounds.{verdict}
use Rattle.rules.specs.Answers.{role_in}
use Rattle.verdicts.specs.Studied.{StudiedIf}
use Rattle.judge.proofs.EntryAnswers.{role_refused, role_left}
use Rattle.rules.proofs.Findings.{passed_on}
use Rattle.judge.proofs.role.Goals as goal

pub study-requires : goal.study-requires
study-requires c = (subst Fits (sym c.khz50_device-d.ensures) khz50_fits, refl)

pub role_in-requires : goal.role_in-requires
role_in-requires c =
    let y = c.study in
    (subst Fits (sym c.khz50_device-d.ensures) khz50_fits, subst (λ (v : Verdict). StudiedIf v c.khz50_device-d.result c.args.plan.now y.new.m) c.in_ok-study.was y.ensures.1)

pub returns-in_err-study : goal.returns-in_err-study
returns-in_err-study c =
    let g = c in
    rw (passed_on _ c.from_residual.ensures) (role_refused khz50 g.args.plan.now g.args.k g.args.phase _ (sym c.in_err-study.was ∙ c.study.ensures.0 ∙ ap (λ (d : Device). verdict d g.args.plan.now) c.khz50_device-d.ensures))

pub returns : goal.returns
returns c =
    let g = c in
    let is = c.khz50_device-d.ensures in
    c.role_in.ensures ∙ ap (λ (d : Device). role_in d g.args.plan.now g.args.k g.args.phase) is
    ∙ role_left khz50 g.args.plan.now g.args.k g.args.phase _ (sym c.in_ok-study.was ∙ c.study.ensures.0 ∙ ap (λ (d : Device). verdict d g.args.plan.now) is)
