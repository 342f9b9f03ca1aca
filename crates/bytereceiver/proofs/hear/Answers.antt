-- `bytereceiver::hear` meets its contract: one law for each return, over the cells of the bytes. Assumes nothing.
use Prim.Native.Nat.{ℕ, ◌-◌, ◌≤◌}
use mathlib.Core.Path.{◌≡◌, refl, sym, ap, ◌∙◌}
use mathlib.Core.List.{List, [], ◌++◌}
use native.Mathlib.Omega.{arith}
use lib.ListN.{length, take, drop, replicate, length-append}
use lib.Seq.{sets, take_at}
use borrow.Author.Tests.{ltb-false}
use Rattle.rules.specs.Device.{phases}
use Rattle.rules.specs.Fits.{capacity}
use Rattle.rules.specs.Plan.{plan_of}
use Rattle.rules.specs.Frame.{frame_of}
use Rattle.rules.specs.Receive.{out_phase, warming, heard_state, heard_store}
use Rattle.fill.specs.Flags.{taken_data}
use Rattle.fill.proofs.Inputs.{free_count}
use Rattle.spots.proofs.Parts.{part_size}
use Rattle.places.proofs.Sizes.{receiver_places_are}
use Rattle.bytecells.specs.Octets.{cells_of, bytes_of}
use Rattle.bytecells.proofs.OctetLaws.{whole_length}
use Rattle.receiving.proofs.Answers.{at, arriving, warming_at, state_at, store_at, gathered, warmed, data_handed}
use Rattle.bytereceiver.proofs.Bytes.{as_bytes}
use Rattle.bytereceiver.proofs.hear.Goals as goal
use Rattle.bytereceiver.proofs.hear.Goals.{After-next_state-next, After-take_in, After-warms, Start}

-- its cells fit the array
low : (g : Start) → g.args.n ≤ 4096
unfolding frame_of
low g = omega (arith, g.requires.3.few, g.requires.0.few)

-- the store that the arriving cells have moved
stored : (c : After-take_in) → c.take_in.new.store ≡ bytes_of (heard_store ((frame_of c.args.d (plan_of c.args.plan.now))) ((at c.args.state (cells_of c.args.store.now))) c.args.y.now)
unfolding frame_of
stored c =
    let g = c in
    c.take_in.ensures.stored ∙ ap bytes_of (store_at ((frame_of g.args.d (plan_of g.args.plan.now))) ((at g.args.state (cells_of g.args.store.now))) ((arriving [] g.args.y.now (cells_of g.args.buffer.now))) g.args.m _ g.requires.3.deep (part_size g.args.n ((let it : g.args.n ≤ 4096 = omega (arith, g.requires.3.few, g.requires.0.few) in it)) ∙ g.requires.3.all))

-- the oldest cells are as many, and are the first of the array
count : (c : After-take_in) → length c.take_in.new.x ≡ c.args.n
unfolding frame_of
count c = let g = c in c.take_in.auto.x ∙ part_size g.args.n ((let it : g.args.n ≤ 4096 = omega (arith, g.requires.3.few, g.requires.0.few) in it))

taken : (c : After-take_in) → take c.args.n (c.take_in.new.x ++ drop c.args.n (replicate capacity 0)) ≡ c.take_in.new.x
taken c = take_at c.take_in.new.x _ _ (count c)

-- the next state
next : (c : After-next_state-next) → c.next_state-next.result ≡ heard_state ((frame_of c.args.d (plan_of c.args.plan.now))) c.args.state
unfolding frame_of
next c = let g = c in c.next_state-next.ensures ∙ state_at ((frame_of g.args.d (plan_of g.args.plan.now))) g.args.state g.args.m g.requires.3.deep phases refl

-- whether it is warming
said : (c : After-warms) → warming ((frame_of c.args.d (plan_of c.args.plan.now))) c.args.state ≡ c.warms.result
said c = let g = c in sym (c.warms.ensures ∙ warming_at ((frame_of g.args.d (plan_of g.args.plan.now))) g.args.state g.args.m g.requires.3.deep)

pub slice_bounds-x-end : goal.slice_bounds-x-end
slice_bounds-x-end c = low (goal.at.slice_bounds-x-end c).Start

pub slice_bounds-take_in-end : goal.slice_bounds-take_in-end
slice_bounds-take_in-end c = let g = c in sym (part_size g.args.n (low (goal.at.slice_bounds-take_in-end c).Start))

pub take_in-requires : goal.take_in-requires
unfolding frame_of
take_in-requires c =
    let g = c in
    let a = g.args in
    let w = g.requires.3 in
    let size = part_size a.n (low (goal.at.take_in-requires c).Start) in
    let places = receiver_places_are ((frame_of g.args.d (plan_of g.args.plan.now))) a.m _ w.deep (size ∙ w.all) in
    (g.requires.0, g.requires.1, omega (arith, w.heard_in), omega (arith, w.shallow), w.whole, size ∙ w.all, omega (arith, size, low (goal.at.take_in-requires c).Start), omega (arith, size, w.all, g.requires.4.cells_fit), omega (arith, places, w.places_fit, whole_length a.store.now g.requires.1), g.requires.4.spots)

pub next_state-next-requires : goal.next_state-next-requires
next_state-next-requires c = let w = c.requires.3 in (w.phase_in, w.heard_in, omega (arith, w.shallow))

pub warms-requires : goal.warms-requires
warms-requires c = omega (arith, c.requires.3.heard_in)

pub returns-then-warms : goal.returns-then-warms
returns-then-warms c =
    let g = c in
    as_bytes _ _ _ _ (cells_of g.args.buffer.now) _ (stored (goal.at.returns-then-warms c).After-take_in) (sym g.requires.2) (warmed ((frame_of g.args.d (plan_of g.args.plan.now))) ((at g.args.state (cells_of g.args.store.now))) ((arriving [] g.args.y.now (cells_of g.args.buffer.now))) _ _ refl (next (goal.at.returns-then-warms c).After-next_state-next) (said (goal.at.returns-then-warms c).After-warms ∙ c.if-warms.true))

pub slice_bounds-x-end-2 : goal.slice_bounds-x-end-2
slice_bounds-x-end-2 c = omega (arith, count (goal.at.slice_bounds-x-end-2 c).After-take_in, length-append c.take_in.new.x (drop c.args.n (replicate capacity 0)))

pub slice_bounds-hand_out-end : goal.slice_bounds-hand_out-end
slice_bounds-hand_out-end c = sym (ap length (taken (goal.at.slice_bounds-hand_out-end c).After-take_in) ∙ count (goal.at.slice_bounds-hand_out-end c).After-take_in)

pub hand_out-requires : goal.hand_out-requires
hand_out-requires c =
    let g = c in
    let a = g.args in
    let w = g.requires.3 in
    let size = ap length (taken (goal.at.hand_out-requires c).After-take_in) ∙ count (goal.at.hand_out-requires c).After-take_in in
    let room = w.room (ltb-false a.state.heard (a.m - 1) (sym c.warms.ensures ∙ c.if-warms.false)) in (
      g.requires.2,
      omega (arith, size, low (goal.at.hand_out-requires c).Start),
      omega (arith, size, w.all, g.requires.4.flags_fit),
      free_count ((frame_of g.args.d (plan_of g.args.plan.now))) (out_phase ((frame_of g.args.d (plan_of g.args.plan.now))) a.state.phase) a.flag.now g.requires.4.flags _ (size ∙ w.all) ∙ sym w.number,
      omega (arith, room, whole_length a.buffer.now g.requires.2),
    )

pub returns : goal.returns
returns c =
    let g = c in
    let a = g.args in
    let w = g.requires.3 in
    let x = c in
    as_bytes _ _ _ _ _ _ (stored (goal.at.returns c).After-take_in) c.hand_out.ensures
    (data_handed ((frame_of g.args.d (plan_of g.args.plan.now))) ((at g.args.state (cells_of g.args.store.now))) ((arriving [] g.args.y.now (cells_of g.args.buffer.now))) _ _ refl (next (goal.at.returns c).After-next_state-next) (said (goal.at.returns c).After-warms ∙ c.if-warms.false) a.nd _ w.number
    (ap (λ (l : List ℕ). sets (cells_of a.buffer.now) 0 (taken_data a.flag.now l)) (taken (goal.at.returns c).After-take_in ∙ x.take_in.ensures.taken)
    ∙ ap (sets (cells_of a.buffer.now) 0) (gathered ((frame_of g.args.d (plan_of g.args.plan.now))) ((at g.args.state (cells_of g.args.store.now))) ((arriving [] g.args.y.now (cells_of g.args.buffer.now))) a.m _ w.deep (part_size a.n (low (goal.at.returns c).Start) ∙ w.all) a.flag.now g.requires.4.flags)))
