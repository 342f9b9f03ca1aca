-- `bytefilling::unfill` meets its contract. Ground 21, refused as measured, or put back. Assumes nothing.
use Prim.Native.Nat.{ℕ, ◌≤◌}
use mathlib.Core.Path.{◌≡◌, refl, sym, ap, ◌∙◌, subst}
use mathlib.Core.Bool.{false}
use mathlib.Core.List.{List}
use native.Mathlib.Omega.{arith}
use lib.ListN.{length, take}
use lib.Seq.{length-take-le}
use Rattle.rules.proofs.Findings.{passed_on}
use Rattle.std.specs.Prelude.{Ok}
use Rattle.rules.specs.Refusals.{CountAnswer}
use Rattle.rules.specs.declared.Device.{Device}
use Rattle.rules.specs.Device.{khz50}
use Rattle.rules.specs.Fits.{Fits}
use Rattle.rules.specs.Plan.{plan_of}
use Rattle.rules.specs.Frame.{frame_of}
use Rattle.rules.specs.Bits.{total}
use Rattle.rules.specs.Filling.{bit_count}
use Rattle.rules.proofs.Sizes.{khz50_fits}
use Rattle.bytecells.specs.Octets.{cells_of, odd}
use Rattle.bytecells.specs.ByteSteps.{unfill_bytes}
use Rattle.filling.specs.Measured.{measure, Measured, MeasuredIf}
use Rattle.filling.specs.Measured as measured
use Rattle.filling.proofs.Measures.{unfill_refused, unfill_put, loads_small, need_is}
use Rattle.bytefilling.proofs.ByteFills.{unfill_odd, unfill_whole}
use Rattle.bytefilling.proofs.unfill.Goals as goal
use Rattle.bytefilling.proofs.unfill.Goals.{Else-halved, In_ok-need}

-- the data are bytes of whole cells
even : (c : Else-halved) → odd c.args.input.now ≡ false
even c = sym c.halved.ensures.0 ∙ c.if-halved.false

said : (c : In_ok-need) → (let a = c.args in (Ok c.in_ok-need.need ≡ measure ((c.khz50_device-d.result)) a.plan.now a.profile.now a.phase c.read_first-n.result (length a.stream.now) a.start) × Measured (frame_of ((c.khz50_device-d.result)) (plan_of a.plan.now)) a.profile.now a.phase c.read_first-n.result (length a.stream.now) a.start c.measure.new.loads)
said c =
    let a = c.args in
    let m = c.measure in
    (sym c.in_ok-need.was ∙ m.ensures.answer, subst (λ (r : CountAnswer). MeasuredIf r (frame_of ((c.khz50_device-d.result)) (plan_of a.plan.now)) a.profile.now a.phase c.read_first-n.result (length a.stream.now) a.start m.new.loads) c.in_ok-need.was m.ensures.made)

-- they fit both arrays
few : (c : In_ok-need) (n : ℕ) → n ≡ c.read_first-n.result → n ≤ 4096
few c n e = omega (arith, e, (said c).1.few, c.measure.auto.loads)

enough : (c : In_ok-need) → c.read_first-n.result ≤ length c.read_first-n.new.cells
enough c = omega (arith, few c _ refl, c.read_first-n.auto.cells)

pub returns-then-halved : goal.returns-then-halved
returns-then-halved c = let a = c.args in unfill_odd khz50 a.plan.now a.profile.now a.phase a.input.now a.start a.stream.now (sym c.halved.ensures.0 ∙ c.if-halved.true)

pub read_first-n-requires : goal.read_first-n-requires
read_first-n-requires c = let h = c in h.halved.ensures.1 h.if-halved.false

pub measure-requires : goal.measure-requires
measure-requires c = let is = c.khz50_device-d.ensures in (subst Fits (sym is) khz50_fits, omega (arith, ap (λ (d : Device). d.depth_max) is), omega arith)

pub slice_bounds-loads-end : goal.slice_bounds-loads-end
slice_bounds-loads-end c = (said c).1.few

pub slice_bounds-put_back-end : goal.slice_bounds-put_back-end
slice_bounds-put_back-end c = sym (length-take-le _ _ (said (goal.at.slice_bounds-put_back-end c).In_ok-need).1.few)

pub slice_bounds-cells-end : goal.slice_bounds-cells-end
slice_bounds-cells-end c = enough (goal.at.slice_bounds-cells-end c).In_ok-need

pub slice_bounds-put_back-end-2 : goal.slice_bounds-put_back-end-2
slice_bounds-put_back-end-2 c = sym (length-take-le _ _ (enough (goal.at.slice_bounds-put_back-end-2 c).In_ok-need))

pub put_back-requires : goal.put_back-requires
unfolding bit_count
put_back-requires c =
    let k = c in
    let a = k.args in
    let t = said (goal.at.put_back-requires c).In_ok-need in
    let is = t.1.these in
    let need = need_is ((k.khz50_device-d.result)) a.plan.now a.profile.now a.phase _ (length a.stream.now) a.start _ t.0 in
    let size = length-take-le _ _ (enough (goal.at.put_back-requires c).In_ok-need) in
    (length-take-le _ _ t.1.few ∙ sym size, few (goal.at.put_back-requires c).In_ok-need _ size, loads_small ((k.khz50_device-d.result)) a.plan.now a.profile.now a.phase _ (length a.stream.now) a.start _ t.0 _ is, need ∙ sym (ap total is), λ z. omega (arith, need, t.1.there (omega (arith, need, z))))

pub returns-in_err-need : goal.returns-in_err-need
returns-in_err-need c =
    let m = c in
    let a = m.args in
    let d = m.khz50_device-d in
    let read = m.read_first-n in
    rw (passed_on _ c.from_residual.ensures)
    (unfill_refused d.result a.plan.now a.profile.now a.phase (cells_of a.input.now) a.start a.stream.now _ _ (sym c.in_err-need.was ∙ m.measure.ensures.answer ∙ ap (λ (n : ℕ). measure d.result a.plan.now a.profile.now a.phase n (length a.stream.now) a.start) read.ensures.number)
    ∙ unfill_whole d.result a.plan.now a.profile.now a.phase a.input.now a.start a.stream.now (even (goal.at.returns-in_err-need c).Else-halved)
    ∙ ap (λ (d : Device). unfill_bytes d a.plan.now a.profile.now a.phase a.input.now a.start a.stream.now) d.ensures)

pub returns : goal.returns
returns c =
    let k = c in
    let a = k.args in
    let read = k.read_first-n in
    c.put_back.ensures
    ∙ ap (λ (x : List ℕ). measured.put_back (take read.result k.measure.new.loads) x k.in_ok-need.need a.stream.now a.start) (read.ensures.read (few (goal.at.returns c).In_ok-need _ refl))
    ∙ unfill_put ((k.khz50_device-d.result)) a.plan.now a.profile.now a.phase (cells_of a.input.now) a.start a.stream.now _ _ ((said (goal.at.returns c).In_ok-need).0 ∙ ap (λ (n : ℕ). measure ((k.khz50_device-d.result)) a.plan.now a.profile.now a.phase n (length a.stream.now) a.start) read.ensures.number) (said (goal.at.returns c).In_ok-need).1.these
    ∙ unfill_whole ((k.khz50_device-d.result)) a.plan.now a.profile.now a.phase a.input.now a.start a.stream.now (even (goal.at.returns c).Else-halved)
    ∙ ap (λ (d : Device). unfill_bytes d a.plan.now a.profile.now a.phase a.input.now a.start a.stream.now) k.khz50_device-d.ensures
