-- `bytefilling::fill` meets its contract. Ground 21, refused as measured, or filled. Assumes nothing.
use Prim.Native.Nat.{ℕ, ◌*◌, ◌/◌, ◌≤◌}
use mathlib.Core.Path.{◌≡◌, sym, ap, ◌∙◌, subst}
use mathlib.Core.Bool.{false}
use mathlib.Core.List.{List}
use native.Mathlib.Omega.{arith}
use lib.ListN.{length}
use lib.Seq.{length-take-le}
use Rattle.rules.proofs.Findings.{passed_on}
use Rattle.std.specs.Prelude.{Ok}
use Rattle.rules.specs.Refusals.{CountAnswer}
use Rattle.rules.specs.declared.Device.{Device}
use Rattle.rules.specs.Device.{khz50}
use Rattle.rules.specs.Fits.{Fits}
use Rattle.rules.specs.Plan.{plan_of}
use Rattle.rules.specs.Frame.{frame_of}
use Rattle.rules.specs.Bits.{filled_from}
use Rattle.rules.proofs.Sizes.{khz50_fits}
use Rattle.bytecells.specs.Octets.{cells_of, odd}
use Rattle.bytecells.specs.ByteSteps.{fill_bytes}
use Rattle.bytecells.proofs.OctetLaws.{length_cells, whole_length}
use Rattle.filling.specs.Measured.{measure, Measured, MeasuredIf}
use Rattle.filling.proofs.Measures.{fill_refused, fill_counted, taken}
use Rattle.filling.proofs.Starts.{fill_start}
use Rattle.bytefilling.proofs.ByteFills.{fill_odd, fill_left, fill_stays}
use Rattle.bytefilling.proofs.fill.Goals as goal
use Rattle.bytefilling.proofs.fill.Goals.{Else-halved, In_ok-need}

-- the data are bytes of whole cells
even : (c : Else-halved) → odd c.args.input.now ≡ false
even c = sym c.halved.ensures.0 ∙ c.if-halved.false

said : (c : In_ok-need) → (let a = c.args in (Ok c.in_ok-need.need ≡ measure ((c.khz50_device-d.result)) a.plan.now a.profile.now a.phase (length c.args.input.now / 2) (length a.stream.now) a.start) × Measured (frame_of ((c.khz50_device-d.result)) (plan_of a.plan.now)) a.profile.now a.phase (length c.args.input.now / 2) (length a.stream.now) a.start c.measure.new.loads)
said c =
    let a = c.args in
    let m = c.measure in
    (sym c.in_ok-need.was ∙ m.ensures.answer, subst (λ (r : CountAnswer). MeasuredIf r (frame_of ((c.khz50_device-d.result)) (plan_of a.plan.now)) a.profile.now a.phase (length c.args.input.now / 2) (length a.stream.now) a.start m.new.loads) c.in_ok-need.was m.ensures.made)

few : (c : In_ok-need) (n : ℕ) → n ≡ length c.args.input.now / 2 → n ≤ 4096
few c n e = omega (arith, e, (said c).1.few, c.measure.auto.loads)

pub returns-then-halved : goal.returns-then-halved
returns-then-halved c = let a = c.args in fill_odd khz50 a.plan.now a.profile.now a.phase a.stream.now a.start a.input.now (sym c.halved.ensures.0 ∙ c.if-halved.true)

pub measure-requires : goal.measure-requires
measure-requires c = let is = c.khz50_device-d.ensures in (subst Fits (sym is) khz50_fits, omega (arith, ap (λ (d : Device). d.depth_max) is), omega arith)

pub slice_bounds-loads-end : goal.slice_bounds-loads-end
slice_bounds-loads-end c = (said c).1.few

pub slice_bounds-fill_into-end : goal.slice_bounds-fill_into-end
slice_bounds-fill_into-end c = sym (length-take-le _ _ (said (goal.at.slice_bounds-fill_into-end c).In_ok-need).1.few)

pub fill_into-requires : goal.fill_into-requires
fill_into-requires c =
    let k = c in
    let a = k.args in
    let f = c.from_bit.ensures in
    let b = taken ((k.khz50_device-d.result)) a.plan.now a.profile.now a.phase _ (length a.stream.now) a.start _ _ (said (goal.at.fill_into-requires c).In_ok-need).0 (said (goal.at.fill_into-requires c).In_ok-need).1 _ f.0 f.1 in
    let size = length-take-le _ _ (said (goal.at.fill_into-requires c).In_ok-need).1.few in
    (ap (λ (n : ℕ). 2 * n) (size ∙ sym (length_cells a.input.now)) ∙ sym (whole_length a.input.now (k.halved.ensures.1 k.if-halved.false)), few (goal.at.fill_into-requires c).In_ok-need _ size, b.small, b.sum, b.fits)

pub returns-in_err-need : goal.returns-in_err-need
returns-in_err-need c =
    let m = c in
    let a = m.args in
    let d = m.khz50_device-d in
    let h = m in
    rw (passed_on _ c.from_residual.ensures)
    (fill_stays d.result a.plan.now a.profile.now a.phase a.stream.now a.start a.input.now (even (goal.at.returns-in_err-need c).Else-halved) (h.halved.ensures.1 h.if-halved.false) _
    (fill_refused d.result a.plan.now a.profile.now a.phase a.stream.now a.start (cells_of a.input.now) _ _ (sym c.in_err-need.was ∙ m.measure.ensures.answer ∙ ap (λ (n : ℕ). measure d.result a.plan.now a.profile.now a.phase n (length a.stream.now) a.start) (sym (length_cells a.input.now))))
    ∙ ap (λ (d : Device). fill_bytes d a.plan.now a.profile.now a.phase a.stream.now a.start a.input.now) d.ensures)

pub returns : goal.returns
returns c =
    let k = c in
    let a = k.args in
    let f = c.from_bit.ensures in
    let b = taken ((k.khz50_device-d.result)) a.plan.now a.profile.now a.phase _ (length a.stream.now) a.start _ _ (said (goal.at.returns c).In_ok-need).0 (said (goal.at.returns c).In_ok-need).1 _ f.0 f.1 in
    fill_left ((k.khz50_device-d.result)) a.plan.now a.profile.now a.phase a.stream.now a.start a.input.now (even (goal.at.returns c).Else-halved) _ _ _ c.fill_into.ensures
    (fill_counted ((k.khz50_device-d.result)) a.plan.now a.profile.now a.phase a.stream.now a.start (cells_of a.input.now) _ _ ((said (goal.at.returns c).In_ok-need).0 ∙ ap (λ (n : ℕ). measure ((k.khz50_device-d.result)) a.plan.now a.profile.now a.phase n (length a.stream.now) a.start) (sym (length_cells a.input.now)))
    (fill_start _ a.start _ b.none b.some a.stream.now ∙ ap (λ (ls : List ℕ). filled_from ls a.stream.now a.start) (said (goal.at.returns c).In_ok-need).1.these))
    ∙ ap (λ (d : Device). fill_bytes d a.plan.now a.profile.now a.phase a.stream.now a.start a.input.now) k.khz50_device-d.ensures
