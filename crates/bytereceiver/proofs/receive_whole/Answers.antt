-- `bytereceiver::receive_whole` meets its contract: refused as the grounds say, or heard, over the cells of the bytes. Assumes nothing.
use Prim.Native.Nat.{ℕ}
use mathlib.Core.Path.{◌≡◌, refl, sym, ap, ◌∙◌, subst}
use mathlib.Core.List.{List, []}
use native.Mathlib.Omega.{arith}
use lib.Seq.{take_all}
use Rattle.rules.specs.declared.Device.{Device}
use Rattle.rules.specs.Device.{khz50}
use Rattle.rules.specs.Fits.{Fits}
use Rattle.rules.specs.Plan.{plan_of}
use Rattle.rules.specs.Frame.{frame_of}
use Rattle.rules.specs.Receive.{received, hear_step, receive_step}
use Rattle.rules.proofs.Sizes.{khz50_fits}
use Rattle.bytecells.specs.Octets.{cells_of}
use Rattle.bytecells.specs.ByteSteps.{heard_bytes}
use Rattle.bytecells.proofs.OctetLaws.{length_cells}
use Rattle.receiving.proofs.Answers.{at, arriving}
use Rattle.receivegrounds.specs.Stages.{admission}
use Rattle.receivegrounds.specs.InOrder.{ReceiveInOrder}
use Rattle.receivegrounds.proofs.Admissions.{refused, none_refuses, admitted}
use Rattle.bytereceiver.proofs.Bytes.{as_bytes}
use Rattle.bytereceiver.proofs.receive_whole.Goals as goal
use Rattle.bytereceiver.proofs.receive_whole.Goals.{After-admit, After-khz50_device-d, In-Ok}

-- the device fits, and has as many subcarriers as the arrays have places
fits : (c : After-khz50_device-d) → Fits c.khz50_device-d.result
fits c = subst Fits (sym c.khz50_device-d.ensures) khz50_fits

wide : (c : After-khz50_device-d) → c.khz50_device-d.result.subcarriers ≡ 4096
wide c = ap (λ (d : Device). d.subcarriers) c.khz50_device-d.ensures

-- the step of the device is the contract's
stepped : (c : After-khz50_device-d) → hear_step c.khz50_device-d.result c.args.plan.now ((at c.args.state (cells_of c.args.store.now))) ((arriving c.args.profile.now (cells_of c.args.symbol.now) (cells_of c.args.buffer.now))) ≡ receive_step khz50 c.args.plan.now c.args.profile.now c.args.state (cells_of c.args.store.now) (cells_of c.args.symbol.now) (cells_of c.args.buffer.now)
unfolding receive_step
stepped c = let g = c in ap (λ (d : Device). hear_step d g.args.plan.now ((at g.args.state (cells_of g.args.store.now))) ((arriving g.args.profile.now (cells_of g.args.symbol.now) (cells_of g.args.buffer.now)))) c.khz50_device-d.ensures

-- what the grounds say
answer : (c : After-admit) → c.admit.result ≡ admission c.khz50_device-d.result c.args.plan.now ((at c.args.state (cells_of c.args.store.now))) ((arriving c.args.profile.now (cells_of c.args.symbol.now) (cells_of c.args.buffer.now)))
answer c =
    let a = c.args in
    let read = c.read_first-width in
    c.admit.ensures.answer (cells_of a.store.now) (cells_of a.symbol.now) (cells_of a.buffer.now) (length_cells a.store.now) (record { number = sym read.ensures.number; read = λ h. read.ensures.read (omega (arith, h, read.auto.cells)) }) (length_cells a.buffer.now)

-- what the step relies on
granted : (c : In-Ok) → ReceiveInOrder (frame_of c.khz50_device-d.result (plan_of c.args.plan.now)) ((at c.args.state (cells_of c.args.store.now))) (arriving [] (cells_of c.args.symbol.now) (cells_of c.args.buffer.now)) c.in-Ok.a.depth c.in-Ok.a.cells c.in-Ok.a.count
granted c =
    let g = c in
    admitted c.khz50_device-d.result g.args.plan.now ((at g.args.state (cells_of g.args.store.now))) ((arriving g.args.profile.now (cells_of g.args.symbol.now) (cells_of g.args.buffer.now))) _ _ _ (sym c.in-Ok.is ∙ (let it : c.admit.result ≡ admission c.khz50_device-d.result c.args.plan.now ((at c.args.state (cells_of c.args.store.now))) ((arriving c.args.profile.now (cells_of c.args.symbol.now) (cells_of c.args.buffer.now))) = let a = c.args in let read = c.read_first-width in c.admit.ensures.answer (cells_of a.store.now) (cells_of a.symbol.now) (cells_of a.buffer.now) (length_cells a.store.now) (record { number = sym read.ensures.number; read = λ h. read.ensures.read (omega (arith, h, read.auto.cells)) }) (length_cells a.buffer.now) in it)) (c.admit.ensures.made _ _ _ c.in-Ok.is).shallow

-- the arriving cells fill their array
arrived : (c : In-Ok) → c.read_first-width.new.cells ≡ cells_of c.args.symbol.now
unfolding frame_of
arrived c =
    let read = c.read_first-width in
    let size : read.result ≡ 4096 = read.ensures.number ∙ (granted c).whole ∙ (let it : c.khz50_device-d.result.subcarriers ≡ 4096 = ap (λ (d : Device). d.subcarriers) c.khz50_device-d.ensures in it) in
    sym (take_all read.result read.new.cells (omega (arith, size, read.auto.cells))) ∙ read.ensures.read (omega (arith, size))

pub slice_bounds-read_first-end : goal.slice_bounds-read_first-end
slice_bounds-read_first-end c = refl

pub read_first-width-requires : goal.read_first-width-requires
read_first-width-requires c = c.requires.1

pub slice_bounds-admit-end : goal.slice_bounds-admit-end
slice_bounds-admit-end c = sym c.read_first-width.auto.cells

pub slice_bounds-admit-end-2 : goal.slice_bounds-admit-end-2
slice_bounds-admit-end-2 c = refl

pub slice_bounds-admit-end-3 : goal.slice_bounds-admit-end-3
slice_bounds-admit-end-3 c = refl

pub admit-requires : goal.admit-requires
admit-requires c =
    let d = c in
    (fits (goal.at.admit-requires c).After-khz50_device-d, omega (arith, ap (λ (d : Device). d.depth_max) d.khz50_device-d.ensures), λ h. omega (arith, h, wide (goal.at.admit-requires c).After-khz50_device-d, c.read_first-width.auto.cells), omega (arith, wide (goal.at.admit-requires c).After-khz50_device-d), omega (arith, wide (goal.at.admit-requires c).After-khz50_device-d))

pub slice_bounds-hear-end : goal.slice_bounds-hear-end
slice_bounds-hear-end c = sym c.admit.auto.kc

pub slice_bounds-hear-end-in-Ok : goal.slice_bounds-hear-end-in-Ok
slice_bounds-hear-end-in-Ok c = sym c.admit.auto.flag

pub slice_bounds-hear-end-in-Ok-2 : goal.slice_bounds-hear-end-in-Ok-2
slice_bounds-hear-end-in-Ok-2 c = sym c.read_first-width.auto.cells

pub hear-requires : goal.hear-requires
hear-requires c =
    let g = c in
    let d = c in (
      fits (goal.at.hear-requires c).After-khz50_device-d,
      g.requires.0,
      g.requires.2,
      subst (λ (y : List ℕ). ReceiveInOrder (frame_of d.khz50_device-d.result (plan_of g.args.plan.now)) ((at g.args.state (cells_of g.args.store.now))) (arriving [] y (cells_of g.args.buffer.now)) c.in-Ok.a.depth c.in-Ok.a.cells c.in-Ok.a.count) (sym (arrived (goal.at.hear-requires c).In-Ok)) (granted (goal.at.hear-requires c).In-Ok),
      c.admit.ensures.made _ _ _ c.in-Ok.is,
    )

pub returns-in-Err : goal.returns-in-Err
returns-in-Err c =
    let g = c in
    as_bytes _ _ _ _ _ _ (sym g.requires.0) (sym g.requires.2) (refused c.khz50_device-d.result g.args.plan.now ((at g.args.state (cells_of g.args.store.now))) ((arriving g.args.profile.now (cells_of g.args.symbol.now) (cells_of g.args.buffer.now))) _ _ (sym c.in-Err.is ∙ answer (goal.at.returns-in-Err c).After-admit) ∙ stepped (goal.at.returns-in-Err c).After-khz50_device-d)

pub shape_of-store : goal.shape_of-store
shape_of-store c = c.hear.auto.store

pub shape_of-buffer : goal.shape_of-buffer
shape_of-buffer c = c.hear.auto.buffer

pub returns-in-Ok : goal.returns-in-Ok
returns-in-Ok c =
    let g = c in
    let d = c.khz50_device-d.result in
    c.hear.ensures
    ∙ ap heard_bytes
    (ap (λ (y : List ℕ). received (frame_of d (plan_of g.args.plan.now)) ((at g.args.state (cells_of g.args.store.now))) (arriving [] y (cells_of g.args.buffer.now))) (arrived (goal.at.returns-in-Ok c).In-Ok)
    ∙ none_refuses d g.args.plan.now ((at g.args.state (cells_of g.args.store.now))) ((arriving g.args.profile.now (cells_of g.args.symbol.now) (cells_of g.args.buffer.now))) _ _ _ (sym c.in-Ok.is ∙ answer (goal.at.returns-in-Ok c).After-admit)
    ∙ stepped (goal.at.returns-in-Ok c).After-khz50_device-d)
