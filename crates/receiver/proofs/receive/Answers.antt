-- `receiver::receive` meets its contract: refused as the grounds say, or heard. Assumes nothing.
use mathlib.Core.Path.{◌≡◌, refl, sym, ap, ◌∙◌, subst}
use native.Mathlib.Omega.{arith}
use lib.Seq.{take-length}
use Rattle.rules.specs.declared.Device.{Device}
use Rattle.rules.specs.Device.{khz50}
use Rattle.rules.specs.Fits.{Fits}
use Rattle.rules.specs.Receive.{hear_step, receive_step}
use Rattle.rules.proofs.Sizes.{khz50_fits}
use Rattle.receiving.proofs.Answers.{at, arriving}
use Rattle.receivegrounds.specs.Stages.{admission}
use Rattle.receivegrounds.proofs.Admissions.{refused, none_refuses, admitted}
use Rattle.receiver.proofs.receive.Goals as goal
use Rattle.receiver.proofs.receive.Goals.{After-admit, After-khz50_device-d}

-- the device fits
fits : (c : After-khz50_device-d) → Fits c.khz50_device-d.result
fits c = subst Fits (sym c.khz50_device-d.ensures) khz50_fits

-- the step of the device is the contract's
stepped : (c : After-khz50_device-d) → hear_step c.khz50_device-d.result c.args.plan.now ((at c.args.state c.args.store.now)) ((arriving c.args.profile.now c.args.symbol.now c.args.buffer.now)) ≡ receive_step khz50 c.args.plan.now c.args.profile.now c.args.state c.args.store.now c.args.symbol.now c.args.buffer.now
unfolding receive_step
stepped c = let g = c in ap (λ (d : Device). hear_step d g.args.plan.now ((at g.args.state g.args.store.now)) ((arriving g.args.profile.now g.args.symbol.now g.args.buffer.now))) c.khz50_device-d.ensures

-- what the grounds say
answer : (c : After-admit) → c.admit.result ≡ admission c.khz50_device-d.result c.args.plan.now ((at c.args.state c.args.store.now)) ((arriving c.args.profile.now c.args.symbol.now c.args.buffer.now))
answer c = let a = c.args in c.admit.ensures.answer a.store.now a.symbol.now a.buffer.now refl (record { number = refl; read = λ h. take-length a.symbol.now }) refl

pub slice_bounds-admit-end : goal.slice_bounds-admit-end
slice_bounds-admit-end c = refl

pub slice_bounds-admit-end-2 : goal.slice_bounds-admit-end-2
slice_bounds-admit-end-2 c = refl

pub admit-requires : goal.admit-requires
admit-requires c =
    let same = c.khz50_device-d.ensures in
    (fits (goal.at.admit-requires c).After-khz50_device-d, omega (arith, ap (λ (d : Device). d.depth_max) same), λ h. omega arith, omega (arith, ap (λ (d : Device). d.subcarriers) same), omega (arith, ap (λ (d : Device). d.subcarriers) same))

pub slice_bounds-hear-end : goal.slice_bounds-hear-end
slice_bounds-hear-end c = sym c.admit.auto.kc

pub slice_bounds-hear-end-in-Ok : goal.slice_bounds-hear-end-in-Ok
slice_bounds-hear-end-in-Ok c = sym c.admit.auto.flag

pub hear-requires : goal.hear-requires
hear-requires c =
    let g = c in
    let made = c.admit.ensures.made _ _ _ c.in-Ok.is in
    (fits (goal.at.hear-requires c).After-khz50_device-d, admitted c.khz50_device-d.result g.args.plan.now ((at g.args.state g.args.store.now)) ((arriving g.args.profile.now g.args.symbol.now g.args.buffer.now)) _ _ _ (sym c.in-Ok.is ∙ answer (goal.at.hear-requires c).After-admit) made.shallow, made)

pub returns-in-Err : goal.returns-in-Err
returns-in-Err c =
    let g = c in
    refused c.khz50_device-d.result g.args.plan.now ((at g.args.state g.args.store.now)) ((arriving g.args.profile.now g.args.symbol.now g.args.buffer.now)) _ _ (sym c.in-Err.is ∙ answer (goal.at.returns-in-Err c).After-admit) ∙ stepped (goal.at.returns-in-Err c).After-khz50_device-d

pub shape_of-store : goal.shape_of-store
shape_of-store c = c.hear.auto.store

pub shape_of-buffer : goal.shape_of-buffer
shape_of-buffer c = c.hear.auto.buffer

pub returns-in-Ok : goal.returns-in-Ok
returns-in-Ok c =
    let g = c in
    c.hear.ensures
    ∙ none_refuses c.khz50_device-d.result g.args.plan.now ((at g.args.state g.args.store.now)) ((arriving g.args.profile.now g.args.symbol.now g.args.buffer.now)) _ _ _ (sym c.in-Ok.is ∙ answer (goal.at.returns-in-Ok c).After-admit)
    ∙ stepped (goal.at.returns-in-Ok c).After-khz50_device-d
