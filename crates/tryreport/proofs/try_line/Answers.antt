-- `tryreport::try_line` meets its contract: the line of a refusal, or of the copy. Assumes nothing.
use mathlib.Core.Path.{sym, ap, ◌∙◌, subst}
use native.Mathlib.Omega.{arith}
use lib.Seq.{length-take-le}
use Rattle.rules.specs.Refusals.{Verdict}
use Rattle.rules.specs.Device.{khz50}
use Rattle.rules.specs.Fits.{Fits}
use Rattle.rules.specs.Grounds.{verdict}
use Rattle.rules.proofs.Sizes.{khz50_fits}
use Rattle.exclusion.specs.Copied.{Copied, CopiedIf}
use Rattle.report.specs.PlanLine.{plan_line}
use Rattle.tryreport.proofs.TryLines.{refused_try, copy_line, copy_accepted}
use Rattle.tryreport.proofs.try_line.Goals as goal
use Rattle.tryreport.proofs.try_line.Goals.{In-Ok}

-- the copy has been made
made : (c : In-Ok) →
    let g = c in
    let r = c.try_range-trial in
    Copied r.result.length c.khz50_device.result g.args.plan.now g.args.first g.args.last r.new.copy
made c =
    let g = c in
    let r = c.try_range-trial in
    subst (λ (v : Verdict). CopiedIf v r.result.length c.khz50_device.result g.args.plan.now g.args.first g.args.last r.new.copy) c.in-Ok.is r.ensures.1

pub try_range-trial-requires : goal.try_range-trial-requires
try_range-trial-requires c = (subst Fits (sym c.khz50_device.ensures) khz50_fits, omega arith)

pub slice_bounds-copy-end : goal.slice_bounds-copy-end
slice_bounds-copy-end c = (made c).few

pub slice_bounds-counted_line-end : goal.slice_bounds-counted_line-end
slice_bounds-counted_line-end c = sym (length-take-le _ _ (made (goal.at.slice_bounds-counted_line-end c).In-Ok).few)

pub counted_line-requires : goal.counted_line-requires
counted_line-requires c =
    let g = c in
    let d = c.khz50_device in
    let m = made (goal.at.counted_line-requires c).In-Ok in
    copy_accepted d.result d.ensures g.args.plan.now g.args.first g.args.last m.fine _ (sym c.in-Ok.is ∙ c.try_range-trial.ensures.0) ∙ sym (ap (verdict khz50) m.copy)

pub returns-in-Err : goal.returns-in-Err
returns-in-Err c =
    let g = c in
    let d = c.khz50_device in
    record { result_value = c.refused_line.ensures.result_value ∙ refused_try d.result d.ensures g.args.plan.now g.args.first g.args.last _ (sym c.in-Err.is ∙ c.try_range-trial.ensures.0); prefix_len = c.refused_line.ensures.prefix_len }

pub returns-in-Ok : goal.returns-in-Ok
returns-in-Ok c =
    let g = c in
    let d = c.khz50_device in
    let m = made (goal.at.returns-in-Ok c).In-Ok in
    record { result_value = c.counted_line.ensures.result_value ∙ ap plan_line m.copy ∙ copy_line d.result d.ensures g.args.plan.now g.args.first g.args.last m.fine; prefix_len = c.counted_line.ensures.prefix_len }
