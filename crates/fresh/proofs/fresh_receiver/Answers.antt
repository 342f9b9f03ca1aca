-- `fresh::fresh_receiver` meets its contract: refused as the start is, or all places filler. Assumes nothing.
use mathlib.Core.Path.{◌≡◌, refl, sym, ap, ◌∙◌, subst}
use native.Mathlib.Omega.{arith}
use Rattle.rules.specs.declared.Device.{Device}
use Rattle.std.specs.Prelude.{Ok}
use Rattle.rules.specs.Fits.{Fits}
use Rattle.rules.specs.Receive.{listen_step}
use Rattle.rules.proofs.Sizes.{khz50_fits}
use Rattle.startgrounds.specs.Admit.{receiver_answer}
use Rattle.rules.proofs.Findings.{passed_on}
use Rattle.startgrounds.proofs.Starts.{places_fit, listen_refused, listening}
use Rattle.fresh.proofs.fresh_receiver.Goals as goal
use Rattle.fresh.proofs.fresh_receiver.Goals.{In_ok-n}

-- no ground of 1 to 17 holds, and n is the number of places
counted : (c : In_ok-n) → Ok c.in_ok-n.n ≡ receiver_answer c.khz50_device-d.result c.args.plan.now c.args.phase c.args.store.now
counted c = sym c.in_ok-n.was ∙ c.admit_receiver.ensures _ refl

pub admit_receiver-requires : goal.admit_receiver-requires
admit_receiver-requires c =
    let is = c.khz50_device-d.ensures in
    (subst Fits (sym is) khz50_fits, omega (arith, ap (λ (d : Device). d.depth_max) is))

pub put_filler-requires : goal.put_filler-requires
put_filler-requires c = omega (arith, places_fit _ _ _ _ _ (counted (goal.at.put_filler-requires c).In_ok-n))

pub returns-in_err-n : goal.returns-in_err-n
returns-in_err-n c =
    let a = c.args in
    rw (passed_on _ c.from_residual.ensures)
    (listen_refused _ a.plan.now a.phase a.store.now _ _ (sym c.in_err-n.was ∙ c.admit_receiver.ensures _ refl)
    ∙ ap (λ (d : Device). listen_step d a.plan.now a.phase a.store.now) c.khz50_device-d.ensures)

pub returns : goal.returns
returns c =
    let a = c.args in
    listening _ a.plan.now a.phase a.store.now _ (counted (goal.at.returns c).In_ok-n) _ c.put_filler.ensures
    ∙ ap (λ (d : Device). listen_step d a.plan.now a.phase a.store.now) c.khz50_device-d.ensures
