-- `byteemitter::send_whole` meets its contract: one law for a refusal, one for an accepted step. Assumes nothing.
use Prim.Native.Nat.{ℕ, ◌*◌, ◌≤◌}
use mathlib.Core.Path.{◌≡◌, refl, sym, ap, ◌∙◌, subst}
use mathlib.Core.Bool.{false}
use mathlib.Core.List.{List, ◌++◌}
use native.Mathlib.Omega.{arith}
use lib.ListN.{length, take, drop}
use lib.Seq.{length-take-le, length_front, take_at}
use Rattle.rules.specs.declared.Device.{Device}
use Rattle.rules.specs.Refusals.{Verdict}
use Rattle.std.specs.Prelude.{Ok}
use Rattle.rules.specs.Fits.{Fits, capacity}
use Rattle.rules.specs.Plan.{plan_of}
use Rattle.rules.specs.Frame.{frame_of, line_symbol}
use Rattle.rules.specs.Store.{emitter_places}
use Rattle.rules.proofs.Sizes.{khz50_fits}
use Rattle.places.proofs.Sizes.{emitter_places_are}
use Rattle.steps.proofs.Accepted.{cells_low}
use Rattle.steps.proofs.Lent.{Lent}
use Rattle.bytecells.specs.Octets.{cells_of, bytes_of}
use Rattle.bytecells.specs.ByteSteps.{sent_bytes}
use Rattle.bytecells.proofs.OctetLaws.{length_cells, whole_length}
use Rattle.sending.specs.Sent.{given_by, at, giving, step_by}
use Rattle.sendgrounds.specs.Opening.{SendOpens}
use Rattle.sendgrounds.proofs.Answers.{refused, fit, sent}
use Rattle.byteemitter.proofs.ByteAnswers.{as_bytes, unchanged}
use Rattle.byteemitter.proofs.send_whole.Goals as goal
use Rattle.byteemitter.proofs.send_whole.Goals.{After-admit, After-delay, After-number_at-m, In-Ok}

-- what `admit` answers, and what it has made
said : (c : After-admit) → SendOpens c.admit.result false c.khz50_device-d.result c.args.plan.now (at c.args.state (cells_of c.args.store.now)) (giving (given_by c.args.flushing (cells_of c.args.input.now)) c.args.profile.now (cells_of c.args.symbol.now)) c.admit.new.marks c.admit.new.car c.admit.new.x
said c =
    let first = c.read_first-number in
    c.admit.ensures (cells_of c.args.store.now) (cells_of c.args.input.now) (cells_of c.args.symbol.now) (length_cells c.args.store.now) (length_cells c.args.symbol.now) (record { number = sym first.ensures.number; read = λ h. first.ensures.read (omega (arith, h, first.auto.cells)) })

taken : (c : In-Ok) → SendOpens (Ok c.in-Ok.n) false c.khz50_device-d.result c.args.plan.now (at c.args.state (cells_of c.args.store.now)) (giving (given_by c.args.flushing (cells_of c.args.input.now)) c.args.profile.now (cells_of c.args.symbol.now)) c.admit.new.marks c.admit.new.car c.admit.new.x
taken c =
    let first = c.read_first-number in
    subst (λ (r : Verdict). SendOpens r false c.khz50_device-d.result c.args.plan.now (at c.args.state (cells_of c.args.store.now)) (giving (given_by c.args.flushing (cells_of c.args.input.now)) c.args.profile.now (cells_of c.args.symbol.now)) c.admit.new.marks c.admit.new.car c.admit.new.x) c.in-Ok.is
    (c.admit.ensures (cells_of c.args.store.now) (cells_of c.args.input.now) (cells_of c.args.symbol.now) (length_cells c.args.store.now) (length_cells c.args.symbol.now) (record { number = sym first.ensures.number; read = λ h. first.ensures.read (omega (arith, h, first.auto.cells)) }))

-- the cells fit the array
size : (c : After-admit) → length c.admit.new.x ≡ capacity
size c = c.admit.auto.x

low : (c : In-Ok) → c.in-Ok.n ≤ capacity
low c =
    let r = (taken c).1.ready in
    omega (arith, r.all, cells_low c.khz50_device-d.result (plan_of c.args.plan.now) r.fits)

-- so many are the first ones
part : (c : In-Ok) → length (take c.in-Ok.n c.admit.new.x) ≡ c.in-Ok.n
part c = length-take-le c.in-Ok.n c.admit.new.x (omega (arith, low c, c.admit.auto.x))

-- and stay so, in an array that is whole again
front : (c : After-delay) → length (take c.in-Ok.n c.admit.new.x) ≡ c.in-Ok.n → take c.in-Ok.n (c.delay.new.cells ++ drop c.in-Ok.n c.admit.new.x) ≡ c.delay.new.cells
front c size = take_at c.delay.new.cells (drop c.in-Ok.n c.admit.new.x) c.in-Ok.n (c.delay.auto.cells ∙ size)

again : (c : After-delay) → c.in-Ok.n ≤ capacity → c.in-Ok.n ≤ length (c.delay.new.cells ++ drop c.in-Ok.n c.admit.new.x)
again c low = omega (arith, low, c.admit.auto.x, length_front c.admit.new.x c.delay.new.cells c.in-Ok.n c.delay.auto.cells)

-- grounds 16 and 17 are passed
lent : (c : In-Ok) → Lent (frame_of c.khz50_device-d.result (plan_of c.args.plan.now)) c.args.state.phase (emitter_places (frame_of c.khz50_device-d.result (plan_of c.args.plan.now))) (cells_of c.args.store.now) (cells_of c.args.symbol.now)
lent c = (fit false c.khz50_device-d.result c.args.plan.now (at c.args.state (cells_of c.args.store.now)) (giving (given_by c.args.flushing (cells_of c.args.input.now)) c.args.profile.now (cells_of c.args.symbol.now)) c.in-Ok.n (taken c).0).0

-- m is the depth
deep : (c : After-number_at-m) → c.number_at-m.result ≡ (plan_of c.args.plan.now).depth
unfolding plan_of
deep c = c.number_at-m.ensures.0

pub admit-requires : goal.admit-requires
admit-requires c =
    let is = c.khz50_device-d.ensures in
    let wide = ap (λ (d : Device). d.subcarriers) is in
    (subst Fits (sym is) khz50_fits, omega (arith, ap (λ (d : Device). d.depth_max) is), λ h. omega (arith, h, wide, c.read_first-number.auto.cells), refl, refl, omega (arith, wide))

pub number_at-m-requires : goal.number_at-m-requires
number_at-m-requires c = omega (arith, (taken c).1.ready.studied.long)

pub slice_bounds-x-end : goal.slice_bounds-x-end
slice_bounds-x-end c = omega (arith, low (goal.at.slice_bounds-x-end c).In-Ok, size (goal.at.slice_bounds-x-end c).After-admit)

pub slice_bounds-delay-end : goal.slice_bounds-delay-end
slice_bounds-delay-end c = sym (part (goal.at.slice_bounds-delay-end c).In-Ok)

pub delay-requires : goal.delay-requires
unfolding frame_of
delay-requires c =
    let m = deep (goal.at.delay-requires c).After-number_at-m in
    let r = (taken (goal.at.delay-requires c).In-Ok).1.ready in
    let x = part (goal.at.delay-requires c).In-Ok in
    let need = emitter_places_are (frame_of c.khz50_device-d.result (plan_of c.args.plan.now)) _ _ m (x ∙ r.all) in
    (c.requires.0, omega (arith, m, r.deep), omega (arith, m, r.shallow), omega (arith, x, low (goal.at.delay-requires c).In-Ok), omega (arith, need, (lent (goal.at.delay-requires c).In-Ok).places_fit, whole_length c.args.store.now c.requires.0))

pub slice_bounds-place-end : goal.slice_bounds-place-end
slice_bounds-place-end c = sym (taken (goal.at.slice_bounds-place-end c).In-Ok).1.whole

pub slice_bounds-x-end-in-Ok : goal.slice_bounds-x-end-in-Ok
slice_bounds-x-end-in-Ok c = again (goal.at.slice_bounds-x-end-in-Ok c).After-delay (low (goal.at.slice_bounds-x-end-in-Ok c).In-Ok)

pub slice_bounds-place-end-in-Ok : goal.slice_bounds-place-end-in-Ok
slice_bounds-place-end-in-Ok c = sym (length-take-le _ _ (again (goal.at.slice_bounds-place-end-in-Ok c).After-delay (low (goal.at.slice_bounds-place-end-in-Ok c).In-Ok)))

pub place-requires : goal.place-requires
unfolding frame_of
place-requires c =
    let made = (taken (goal.at.place-requires c).In-Ok).1 in
    let r = made.ready in
    let size = length-take-le c.in-Ok.n (c.delay.new.cells ++ drop c.in-Ok.n c.admit.new.x) (again (goal.at.place-requires c).After-delay (low (goal.at.place-requires c).In-Ok)) in
    (r.fits, r.studied, ap (λ (d : Device). d.subcarriers) c.khz50_device-d.ensures, made.whole, size ∙ r.all, whole_length c.args.symbol.now c.requires.2 ∙ ap (λ (n : ℕ). 2 * n) (lent (goal.at.place-requires c).In-Ok).whole, λ i h. made.ranks i (omega (arith, h, size)))

pub next_state-requires : goal.next_state-requires
unfolding frame_of
next_state-requires c = (lent (goal.at.next_state-requires c).In-Ok).phase_in

pub returns-in-Err : goal.returns-in-Err
returns-in-Err c =
    let a = c.args in
    let d = c.khz50_device-d in
    unchanged _ a.store.now a.symbol.now _ c.requires.0 c.requires.2
    (refused false d.result a.plan.now (at a.state (cells_of a.store.now)) (giving (given_by a.flushing (cells_of a.input.now)) a.profile.now (cells_of a.symbol.now)) _ _ (sym c.in-Err.is ∙ (said (goal.at.returns-in-Err c).After-admit).0))
    ∙ ap (λ (d : Device). sent_bytes (step_by d a.plan.now a.profile.now a.flushing a.state (cells_of a.store.now) (cells_of a.input.now) (cells_of a.symbol.now))) d.ensures

pub returns-in-Ok : goal.returns-in-Ok
returns-in-Ok c =
    let a = c.args in
    let d = c.khz50_device-d in
    let put = c.delay.ensures in
    let step = taken (goal.at.returns-in-Ok c).In-Ok in
    as_bytes _ _ _ _ _ _ put.stored
    (c.place.ensures ∙ ap (λ (x : List ℕ). bytes_of (line_symbol (frame_of d.result (plan_of a.plan.now)) x)) (front (goal.at.returns-in-Ok c).After-delay (part (goal.at.returns-in-Ok c).In-Ok) ∙ put.sent))
    (sent d.result a.plan.now (at a.state (cells_of a.store.now)) (giving (given_by a.flushing (cells_of a.input.now)) a.profile.now (cells_of a.symbol.now)) _ step.0 _ _ _ _ _ _ (deep (goal.at.returns-in-Ok c).After-number_at-m) (part (goal.at.returns-in-Ok c).In-Ok) step.1.input refl refl c.next_state.ensures)
    ∙ ap (λ (d : Device). sent_bytes (step_by d a.plan.now a.profile.now a.flushing a.state (cells_of a.store.now) (cells_of a.input.now) (cells_of a.symbol.now))) d.ensures
