-- `why::why` meets its contract: refused as the role is, or the role with its reason. Assumes nothing.
use Prim.Native.Nat.{◌<◌}
use mathlib.Core.Path.{◌≡◌, sym, ap, ◌∙◌, subst}
use Rattle.rules.specs.declared.Device.{Device}
use Rattle.std.specs.Prelude.{Ok}
use Rattle.rules.specs.Device.{khz50}
use Rattle.rules.specs.Plan.{plan_of}
use Rattle.rules.specs.Roles.{role}
use Rattle.rules.specs.Grounds.{grounds1to15}
use Rattle.rules.specs.Fits.{Fits}
use Rattle.rules.proofs.Sizes.{khz50_fits}
use Rattle.rules.proofs.Findings.{passed_on}
use Rattle.reasons.specs.Reasons.{with_reason}
use Rattle.reasons.proofs.Answers.{why_is, why_refused}
use Rattle.why.proofs.Answered.{role_answered}
use Rattle.why.proofs.why.Goals as goal

pub with_reason-requires : goal.with_reason-requires
with_reason-requires c =
    let g = c.args in
    let a = role_answered khz50 g.plan.now g.subcarrier g.phase c.in_ok-r.r (sym c.role.ensures ∙ c.in_ok-r.was) in
    let is = sym c.khz50_device-d.ensures in (
      subst Fits is khz50_fits,
      subst (λ (d : Device). grounds1to15 d g.plan.now ≡ Ok tt) is a.fine,
      subst (λ (d : Device). g.subcarrier < d.subcarriers) is a.below,
      subst (λ (d : Device). c.in_ok-r.r ≡ role d (plan_of g.plan.now) g.phase g.subcarrier) is a.is,
    )

pub returns-in_err-r : goal.returns-in_err-r
returns-in_err-r c =
    let g = c.args in
    rw (passed_on _ c.from_residual.ensures) (sym (why_refused khz50 g.plan.now g.subcarrier g.phase _ (sym c.role.ensures ∙ c.in_err-r.was)))

pub returns : goal.returns
returns c =
    let g = c.args in
    ap Ok (c.with_reason.ensures ∙ ap (λ (d : Device). with_reason d g.plan.now g.subcarrier g.phase c.in_ok-r.r) c.khz50_device-d.ensures)
    ∙ sym (why_is khz50 g.plan.now g.subcarrier g.phase _ (sym c.role.ensures ∙ c.in_ok-r.was))
