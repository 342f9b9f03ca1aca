-- `cells::data_count` meets its contract. Assumes nothing.
use mathlib.Core.Path.{refl, sym, ap, subst, ◌∙◌}
use native.Mathlib.Omega.{arith}
use Rattle.rules.specs.declared.Device.{Device}
use Rattle.rules.specs.Refusals.{Verdict}
use Rattle.rules.specs.Device.{khz50}
use Rattle.rules.specs.Plan.{plan_of}
use Rattle.rules.specs.Grounds.{verdict}
use Rattle.rules.specs.Fits.{Fits}
use Rattle.rules.specs.Frame.{frame_of}
use Rattle.rules.specs.Steps.{frame_count}
use Rattle.rules.proofs.Sizes.{khz50_fits}
use Rattle.verdicts.specs.Studied.{StudiedIf}
use Rattle.verdicts.proofs.Verdicts.{no_ground}
use Rattle.facts.proofs.Accepted.{depth_in}
use Rattle.rules.proofs.Findings.{passed_on}
use Rattle.rules.proofs.Answered.{accepted_cells}
use Rattle.cells.proofs.Answers.{count_refused, count_left}
use Rattle.cells.proofs.data_count.Goals as goal

pub study-requires : goal.study-requires
study-requires c = (subst Fits (sym c.khz50_device-d.ensures) khz50_fits, refl)

pub count_in-requires : goal.count_in-requires
count_in-requires c =
    let s = c.args.plan.now in
    let device = c.khz50_device-d in
    let study = c.study in
    let told = c.in_ok-ni.was in
    let judged = sym told ∙ study.ensures.0 in
    let deep = depth_in khz50 s (no_ground khz50 s _ (judged ∙ ap (λ (d : Device). verdict d s) device.ensures)) in (
      subst Fits (sym device.ensures) khz50_fits,
      subst (λ (v : Verdict). StudiedIf v device.result s study.new.m) told study.ensures.1,
      deep.0,
      omega (arith, deep.1),
      accepted_cells device.result s _ judged,
    )

pub returns-in_err-ni : goal.returns-in_err-ni
returns-in_err-ni c =
    let a = c.args in
    rw (passed_on _ c.from_residual.ensures) (count_refused khz50 a.plan.now a.phase _ (sym c.in_err-ni.was ∙ c.study.ensures.0 ∙ ap (λ (d : Device). verdict d a.plan.now) c.khz50_device-d.ensures))

pub returns : goal.returns
returns c =
    let a = c.args in
    let device = c.khz50_device-d in
    let study = c.study in
    c.count_in.ensures ∙ ap (λ (d : Device). frame_count (frame_of d (plan_of a.plan.now)) a.phase) device.ensures
    ∙ count_left khz50 a.plan.now a.phase _ (sym c.in_ok-ni.was ∙ study.ensures.0 ∙ ap (λ (d : Device). verdict d a.plan.now) device.ensures)
