-- `filling::unfill_symbol` meets its contract. Refused as measured, or put back. Assumes nothing.
use mathlib.Core.Path.{◌≡◌, sym, ap, ◌∙◌, subst}
use native.Mathlib.Omega.{arith}
use lib.ListN.{length}
use lib.Seq.{length-take-le}
use Rattle.rules.specs.declared.Device.{Device}
use Rattle.rules.specs.Refusals.{CountAnswer}
use Rattle.rules.proofs.Findings.{passed_on}
use Rattle.std.specs.Prelude.{Ok}
use Rattle.rules.specs.Fits.{Fits}
use Rattle.rules.specs.Plan.{plan_of}
use Rattle.rules.specs.Bits.{total}
use Rattle.rules.specs.Frame.{frame_of}
use Rattle.rules.specs.Filling.{bit_count, unfill_step}
use Rattle.rules.proofs.Sizes.{khz50_fits}
use Rattle.filling.specs.Measured.{measure, Measured, MeasuredIf}
use Rattle.filling.proofs.Measures.{unfill_refused, unfill_put, loads_small, need_is}
use Rattle.filling.proofs.unfill_symbol.Goals as goal
use Rattle.filling.proofs.unfill_symbol.Goals.{In_ok-need}

said : (c : In_ok-need) → let a = c.args in (Ok c.in_ok-need.need ≡ measure ((c.khz50_device-d.result)) a.plan.now a.profile.now a.phase (length a.input.now) (length a.stream.now) a.start) × Measured (frame_of ((c.khz50_device-d.result)) (plan_of a.plan.now)) a.profile.now a.phase (length a.input.now) (length a.stream.now) a.start c.measure.new.loads
said c =
    let a = c.args in
    let m = c.measure in
    (sym c.in_ok-need.was ∙ m.ensures.answer, subst (λ (r : CountAnswer). MeasuredIf r (frame_of ((c.khz50_device-d.result)) (plan_of a.plan.now)) a.profile.now a.phase (length a.input.now) (length a.stream.now) a.start m.new.loads) c.in_ok-need.was m.ensures.made)

pub measure-requires : goal.measure-requires
measure-requires c = let is = c.khz50_device-d.ensures in (subst Fits (sym is) khz50_fits, omega (arith, ap (λ (d : Device). d.depth_max) is), omega arith)

pub slice_bounds-loads-end : goal.slice_bounds-loads-end
slice_bounds-loads-end c = (said c).1.few

pub slice_bounds-put_back-end : goal.slice_bounds-put_back-end
slice_bounds-put_back-end c = sym (length-take-le _ _ (said (goal.at.slice_bounds-put_back-end c).In_ok-need).1.few)

pub put_back-requires : goal.put_back-requires
unfolding bit_count
put_back-requires c =
    let k = c in
    let a = k.args in
    let t = said (goal.at.put_back-requires c).In_ok-need in
    let is = t.1.these in
    let need = need_is ((k.khz50_device-d.result)) a.plan.now a.profile.now a.phase (length a.input.now) (length a.stream.now) a.start _ t.0 in
    (length-take-le _ _ t.1.few, omega (arith, t.1.few, k.measure.auto.loads), loads_small ((k.khz50_device-d.result)) a.plan.now a.profile.now a.phase (length a.input.now) (length a.stream.now) a.start _ t.0 _ is, need ∙ sym (ap total is), λ z. omega (arith, need, t.1.there (omega (arith, need, z))))

pub returns-in_err-need : goal.returns-in_err-need
returns-in_err-need c =
    let k = c in
    let a = k.args in
    let d = k.khz50_device-d in
    rw (passed_on _ c.from_residual.ensures)
    (unfill_refused d.result a.plan.now a.profile.now a.phase a.input.now a.start a.stream.now _ _ (sym c.in_err-need.was ∙ k.measure.ensures.answer)
    ∙ ap (λ (d : Device). unfill_step d a.plan.now a.profile.now a.phase a.input.now a.start a.stream.now) d.ensures)

pub returns : goal.returns
returns c =
    let k = c in
    let a = k.args in
    c.put_back.ensures
    ∙ unfill_put ((k.khz50_device-d.result)) a.plan.now a.profile.now a.phase a.input.now a.start a.stream.now _ _ (said (goal.at.returns c).In_ok-need).0 (said (goal.at.returns c).In_ok-need).1.these
    ∙ ap (λ (d : Device). unfill_step d a.plan.now a.profile.now a.phase a.input.now a.start a.stream.now) k.khz50_device-d.ensures
