-- `filling::fill_symbol` meets its contract. Refused as measured, or filled. Assumes nothing.
use Prim.Native.Nat.{ℕ}
use mathlib.Core.Path.{◌≡◌, sym, ap, ◌∙◌, subst}
use mathlib.Core.List.{List}
use native.Mathlib.Omega.{arith}
use lib.ListN.{length}
use lib.Seq.{length-take-le}
use Rattle.rules.specs.declared.Device.{Device}
use Rattle.rules.specs.Refusals.{CountAnswer}
use Rattle.rules.proofs.Findings.{passed_on}
use Rattle.std.specs.Prelude.{Ok}
use Rattle.rules.specs.Fits.{Fits}
use Rattle.rules.specs.Plan.{plan_of}
use Rattle.rules.specs.Bits.{filled_from}
use Rattle.rules.specs.Frame.{frame_of}
use Rattle.rules.specs.Filling.{fill_step}
use Rattle.rules.proofs.Sizes.{khz50_fits}
use Rattle.filling.specs.Measured.{measure, Measured, MeasuredIf}
use Rattle.filling.proofs.Measures.{fill_refused, fill_counted, taken}
use Rattle.filling.proofs.Starts.{fill_start}
use Rattle.filling.proofs.fill_symbol.Goals as goal
use Rattle.filling.proofs.fill_symbol.Goals.{In_ok-need}

said : (c : In_ok-need) → let a = c.args in (Ok c.in_ok-need.need ≡ measure ((c.khz50_device-d.result)) a.plan.now a.profile.now a.phase (length a.input.now) (length a.stream.now) a.start) × Measured (frame_of ((c.khz50_device-d.result)) (plan_of a.plan.now)) a.profile.now a.phase (length a.input.now) (length a.stream.now) a.start c.measure.new.loads
said c =
    let a = c.args in
    let m = c.measure in
    (sym c.in_ok-need.was ∙ m.ensures.answer, subst (λ (r : CountAnswer). MeasuredIf r (frame_of ((c.khz50_device-d.result)) (plan_of a.plan.now)) a.profile.now a.phase (length a.input.now) (length a.stream.now) a.start m.new.loads) c.in_ok-need.was m.ensures.made)

pub measure-requires : goal.measure-requires
measure-requires c = let is = c.khz50_device-d.ensures in (subst Fits (sym is) khz50_fits, omega (arith, ap (λ (d : Device). d.depth_max) is), omega arith)

pub slice_bounds-loads-end : goal.slice_bounds-loads-end
slice_bounds-loads-end c = (said c).1.few

pub slice_bounds-fill_from-end : goal.slice_bounds-fill_from-end
slice_bounds-fill_from-end c = sym (length-take-le _ _ (said (goal.at.slice_bounds-fill_from-end c).In_ok-need).1.few)

pub fill_from-requires : goal.fill_from-requires
fill_from-requires c =
    let k = c in
    let a = k.args in
    let f = c.from_bit.ensures in
    let t = taken ((k.khz50_device-d.result)) a.plan.now a.profile.now a.phase (length a.input.now) (length a.stream.now) a.start _ _ (said (goal.at.fill_from-requires c).In_ok-need).0 (said (goal.at.fill_from-requires c).In_ok-need).1 _ f.0 f.1 in
    (length-take-le _ _ (said (goal.at.fill_from-requires c).In_ok-need).1.few, t.small, t.sum, t.fits)

pub returns-in_err-need : goal.returns-in_err-need
returns-in_err-need c =
    let k = c in
    let a = k.args in
    let d = k.khz50_device-d in
    rw (passed_on _ c.from_residual.ensures)
    (fill_refused d.result a.plan.now a.profile.now a.phase a.stream.now a.start a.input.now _ _ (sym c.in_err-need.was ∙ k.measure.ensures.answer)
    ∙ ap (λ (d : Device). fill_step d a.plan.now a.profile.now a.phase a.stream.now a.start a.input.now) d.ensures)

pub returns : goal.returns
returns c =
    let k = c in
    let g = k in
    let a = g.args in
    let t = said (goal.at.returns c).In_ok-need in
    let is = t.1.these in
    let f = c.from_bit.ensures in
    let b = taken ((k.khz50_device-d.result)) a.plan.now a.profile.now a.phase (length a.input.now) (length a.stream.now) a.start _ _ t.0 t.1 _ f.0 f.1 in
    fill_counted ((k.khz50_device-d.result)) a.plan.now a.profile.now a.phase a.stream.now a.start a.input.now _ _ t.0
    (c.fill_from.ensures
    ∙ fill_start _ a.start _ b.none b.some a.stream.now
    ∙ ap (λ (ls : List ℕ). filled_from ls a.stream.now a.start) is)
    ∙ ap (λ (d : Device). fill_step d a.plan.now a.profile.now a.phase a.stream.now a.start a.input.now) k.khz50_device-d.ensures
