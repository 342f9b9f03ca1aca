-- `bytefresh::fresh_emitter` meets its contract: ground 21, or what the start over cells answers, its store in bytes. Assumes nothing.
use Prim.Native.Nat.{◌≤◌}
use mathlib.Core.Path.{◌≡◌, refl, sym, ap, ◌∙◌, subst}
use mathlib.Core.Bool.{false}
use native.Mathlib.Omega.{arith}
use lib.ListN.{length, take}
use lib.Seq.{length-take-le}
use Rattle.rules.specs.declared.Device.{Device}
use Rattle.rules.specs.Refusals.{Verdict}
use Rattle.std.specs.Prelude.{Ok}
use Rattle.rules.specs.Device.{khz50}
use Rattle.rules.specs.Fits.{Fits}
use Rattle.rules.specs.Plan.{plan_of}
use Rattle.rules.specs.Frame.{frame_of}
use Rattle.rules.specs.Store.{emitter_places}
use Rattle.rules.specs.Steps.{start_step}
use Rattle.rules.proofs.Sizes.{khz50_fits}
use Rattle.rules.proofs.Findings.{passed_on}
use Rattle.flushes.specs.Spotted.{Spotted}
use Rattle.startgrounds.specs.Admit.{emitter_verdict, SpottedIf}
use Rattle.startgrounds.proofs.Starts.{few, StartInOrder, admitted, start_refused, started}
use Rattle.bytecells.specs.Octets.{cells_of, odd, Whole}
use Rattle.bytecells.specs.ByteSteps.{started_bytes}
use Rattle.bytecells.proofs.OctetLaws.{length_cells}
use Rattle.bytefresh.proofs.ByteStarts.{places_bytes, start_written, odd_start, even_start}
use Rattle.bytefresh.proofs.fresh_emitter.Goals as goal
use Rattle.bytefresh.proofs.fresh_emitter.Goals.{Else-halved, In_ok-n}

-- past ground 21 the store is of whole cells
even : (c : Else-halved) → (odd c.args.store.now ≡ false) × Whole c.args.store.now
even c =
    let w = c.halved in
    (sym w.ensures.0 ∙ c.if-halved.false, w.ensures.1 c.if-halved.false)

-- no ground of 1 to 17 holds
accepted : (c : In_ok-n) → Ok c.in_ok-n.n ≡ emitter_verdict false ((c.khz50_device-d.result)) c.args.plan.now c.args.phase (cells_of c.args.store.now)
accepted c = sym c.in_ok-n.was ∙ c.admit_emitter.ensures.answer _ (length_cells c.args.store.now)

known : (c : In_ok-n)
    → StartInOrder ((c.khz50_device-d.result)) c.args.plan.now c.args.phase c.in_ok-n.n
    × (emitter_places (frame_of ((c.khz50_device-d.result)) (plan_of c.args.plan.now)) ≤ length (cells_of c.args.store.now))
known c = let a = admitted false _ _ _ _ _ (accepted c) in (a.0, a.1)

places_from : (c : In_ok-n) → Spotted ((c.khz50_device-d.result)) c.args.plan.now (take c.in_ok-n.n c.admit_emitter.new.kc)
places_from c =
    let w = c.admit_emitter in
    subst (λ (v : Verdict). SpottedIf v ((c.khz50_device-d.result)) c.args.plan.now w.new.kc) c.in_ok-n.was w.ensures.spotted

-- the cells fit the array
low : (c : In_ok-n) → c.in_ok-n.n ≤ length c.admit_emitter.new.kc
low c = omega (arith, few ((c.khz50_device-d.result)) c.args.plan.now _ (places_from c).fits (known c).0.all, c.admit_emitter.auto.kc)

size : (c : In_ok-n) → length (take c.in_ok-n.n c.admit_emitter.new.kc) ≡ c.in_ok-n.n
size c = length-take-le _ _ (low c)

pub returns-then-halved : goal.returns-then-halved
returns-then-halved c =
    let a = c.args in
    odd_start khz50 a.plan.now a.phase a.store.now (sym c.halved.ensures.0 ∙ c.if-halved.true)

pub admit_emitter-requires : goal.admit_emitter-requires
admit_emitter-requires c =
    let is = c.khz50_device-d.ensures in
    (subst Fits (sym is) khz50_fits, omega (arith, ap (λ (d : Device). d.depth_max) is), refl)

pub slice_bounds-kc-end : goal.slice_bounds-kc-end
slice_bounds-kc-end c = low c

pub slice_bounds-fresh_places-end : goal.slice_bounds-fresh_places-end
slice_bounds-fresh_places-end c = sym (size (goal.at.slice_bounds-fresh_places-end c).In_ok-n)

pub fresh_places-requires : goal.fresh_places-requires
fresh_places-requires c =
    let k = c in
    let whole = (even (goal.at.fresh_places-requires c).Else-halved).1 in
    (places_from (goal.at.fresh_places-requires c).In_ok-n, omega (arith, (known (goal.at.fresh_places-requires c).In_ok-n).0.inside), whole, places_bytes k.args.store.now _ whole (known (goal.at.fresh_places-requires c).In_ok-n).1)

pub returns-in_err-n : goal.returns-in_err-n
returns-in_err-n c =
    let a = c.args in
    let cells = cells_of a.store.now in
    let ok = even (goal.at.returns-in_err-n c).Else-halved in
    let met = sym c.in_err-n.was ∙ c.admit_emitter.ensures.answer _ (length_cells a.store.now) in
    rw (passed_on _ c.from_residual.ensures) (
    start_written _ a.store.now cells _ (sym ok.1) (start_refused false _ a.plan.now a.phase cells _ _ met)
    ∙ ap (λ (d : Device). started_bytes (start_step d a.plan.now a.phase cells)) c.khz50_device-d.ensures
    ∙ even_start khz50 a.plan.now a.phase a.store.now ok.0
    )

pub returns : goal.returns
returns c =
    let k = c in
    let a = k.args in
    let cells = cells_of a.store.now in
    start_written _ _ _ _ c.fresh_places.ensures (started false _ a.plan.now a.phase cells _ (accepted (goal.at.returns c).In_ok-n) _ refl)
    ∙ ap (λ (d : Device). started_bytes (start_step d a.plan.now a.phase cells)) k.khz50_device-d.ensures
    ∙ even_start khz50 a.plan.now a.phase a.store.now (even (goal.at.returns c).Else-halved).0
