-- `fresh::fresh_emitter` meets its contract: refused as the start is, or the places made. Assumes nothing.
use Prim.Native.Nat.{◌≤◌}
use mathlib.Core.Path.{◌≡◌, refl, sym, ap, ◌∙◌, subst}
use mathlib.Core.Bool.{false}
use native.Mathlib.Omega.{arith}
use lib.ListN.{length, take}
use lib.Seq.{length-take-le}
use Rattle.rules.specs.declared.Device.{Device}
use Rattle.rules.specs.Refusals.{Verdict}
use Rattle.std.specs.Prelude.{Ok}
use Rattle.rules.specs.Fits.{Fits}
use Rattle.rules.specs.Plan.{plan_of}
use Rattle.rules.specs.Frame.{frame_of}
use Rattle.rules.specs.Store.{emitter_places}
use Rattle.rules.specs.Steps.{start_step}
use Rattle.rules.proofs.Sizes.{khz50_fits}
use Rattle.flushes.specs.Spotted.{Spotted}
use Rattle.startgrounds.specs.Admit.{emitter_verdict, SpottedIf}
use Rattle.rules.proofs.Findings.{passed_on}
use Rattle.startgrounds.proofs.Starts.{few, StartInOrder, admitted, start_refused, started}
use Rattle.fresh.proofs.fresh_emitter.Goals as goal
use Rattle.fresh.proofs.fresh_emitter.Goals.{In_ok-n}

-- no ground of 1 to 17 holds
accepted : (c : In_ok-n) → Ok c.in_ok-n.n ≡ emitter_verdict false c.khz50_device-d.result c.args.plan.now c.args.phase c.args.store.now
accepted c = sym c.in_ok-n.was ∙ c.admit_emitter.ensures.answer _ refl

known : (c : In_ok-n)
    → StartInOrder c.khz50_device-d.result c.args.plan.now c.args.phase c.in_ok-n.n
    × (emitter_places (frame_of c.khz50_device-d.result (plan_of c.args.plan.now)) ≤ length c.args.store.now)
known c = let a = admitted false _ _ _ _ _ (accepted c) in (a.0, a.1)

places_from : (c : In_ok-n) → Spotted c.khz50_device-d.result c.args.plan.now (take c.in_ok-n.n c.admit_emitter.new.kc)
places_from c =
    let w = c.admit_emitter in
    subst (λ (v : Verdict). SpottedIf v c.khz50_device-d.result c.args.plan.now w.new.kc) c.in_ok-n.was w.ensures.spotted

-- the cells fit the array
low : (c : In_ok-n) → c.in_ok-n.n ≤ length c.admit_emitter.new.kc
low c = omega (arith, few c.khz50_device-d.result c.args.plan.now _ (places_from c).fits (known c).0.all, c.admit_emitter.auto.kc)

size : (c : In_ok-n) → length (take c.in_ok-n.n c.admit_emitter.new.kc) ≡ c.in_ok-n.n
size c = length-take-le _ _ (low c)

pub admit_emitter-requires : goal.admit_emitter-requires
admit_emitter-requires c =
    let is = c.khz50_device-d.ensures in
    (subst Fits (sym is) khz50_fits, omega (arith, ap (λ (d : Device). d.depth_max) is), refl)

pub slice_bounds-kc-end : goal.slice_bounds-kc-end
slice_bounds-kc-end c = low c

pub slice_bounds-fresh_places-end : goal.slice_bounds-fresh_places-end
slice_bounds-fresh_places-end c = sym (size (goal.at.slice_bounds-fresh_places-end c).In_ok-n)

pub fresh_places-requires : goal.fresh_places-requires
fresh_places-requires c =
    (places_from (goal.at.fresh_places-requires c).In_ok-n, omega (arith, (known (goal.at.fresh_places-requires c).In_ok-n).0.inside), (known (goal.at.fresh_places-requires c).In_ok-n).1)

pub returns-in_err-n : goal.returns-in_err-n
returns-in_err-n c =
    let a = c.args in
    let is = c.khz50_device-d.ensures in
    rw (passed_on _ c.from_residual.ensures)
    (start_refused false _ a.plan.now a.phase a.store.now _ _ (sym c.in_err-n.was ∙ c.admit_emitter.ensures.answer _ refl)
    ∙ ap (λ (d : Device). start_step d a.plan.now a.phase a.store.now) is)

pub returns : goal.returns
returns c =
    let a = c.args in
    started false _ a.plan.now a.phase a.store.now _ (accepted (goal.at.returns c).In_ok-n) _ c.fresh_places.ensures
    ∙ ap (λ (d : Device). start_step d a.plan.now a.phase a.store.now) c.khz50_device-d.ensures
