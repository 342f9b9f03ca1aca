-- `bytefresh::fresh_receiver` meets its contract: ground 21, or what the start over cells answers, its store in bytes. Assumes nothing.
use mathlib.Core.Path.{◌≡◌, refl, sym, ap, ◌∙◌, subst}
use mathlib.Core.Bool.{false}
use native.Mathlib.Omega.{arith}
use lib.ListN.{replicate}
use Rattle.rules.specs.declared.Device.{Device}
use Rattle.std.specs.Prelude.{Ok}
use Rattle.rules.specs.Device.{khz50}
use Rattle.rules.specs.Fits.{Fits}
use Rattle.rules.specs.Frame.{filler}
use Rattle.rules.specs.Receive.{listen_step}
use Rattle.rules.proofs.Sizes.{khz50_fits}
use Rattle.rules.proofs.Findings.{passed_on}
use Rattle.startgrounds.specs.Admit.{receiver_answer}
use Rattle.startgrounds.proofs.Starts.{places_fit, listen_refused, listening}
use Rattle.bytecells.specs.Octets.{cells_of, odd, Whole}
use Rattle.bytecells.specs.ByteSteps.{listened_bytes}
use Rattle.bytecells.proofs.OctetLaws.{length_cells, put_bytes}
use Rattle.bytefresh.proofs.ByteStarts.{places_bytes, listen_written, odd_listen, even_listen}
use Rattle.bytefresh.proofs.fresh_receiver.Goals as goal
use Rattle.bytefresh.proofs.fresh_receiver.Goals.{Else-halved, In_ok-n}

-- past ground 21 the store is of whole cells
even : (c : Else-halved) → (odd c.args.store.now ≡ false) × Whole c.args.store.now
even c =
    let w = c.halved in
    (sym w.ensures.0 ∙ c.if-halved.false, w.ensures.1 c.if-halved.false)

-- no ground of 1 to 17 holds, and n is the number of places
counted : (c : In_ok-n) → Ok c.in_ok-n.n ≡ receiver_answer ((c.khz50_device-d.result)) c.args.plan.now c.args.phase (cells_of c.args.store.now)
counted c = sym c.in_ok-n.was ∙ c.admit_receiver.ensures _ (length_cells c.args.store.now)

pub returns-then-halved : goal.returns-then-halved
returns-then-halved c =
    let a = c.args in
    odd_listen khz50 a.plan.now a.phase a.store.now (sym c.halved.ensures.0 ∙ c.if-halved.true)

pub admit_receiver-requires : goal.admit_receiver-requires
admit_receiver-requires c =
    let is = c.khz50_device-d.ensures in
    (subst Fits (sym is) khz50_fits, omega (arith, ap (λ (d : Device). d.depth_max) is))

pub write_same-requires : goal.write_same-requires
write_same-requires c =
    let k = c in
    omega (arith, places_bytes k.args.store.now _ (even (goal.at.write_same-requires c).Else-halved).1 (places_fit _ _ _ _ _ (counted (goal.at.write_same-requires c).In_ok-n)))

pub returns-in_err-n : goal.returns-in_err-n
returns-in_err-n c =
    let a = c.args in
    let cells = cells_of a.store.now in
    let ok = even (goal.at.returns-in_err-n c).Else-halved in
    let met = sym c.in_err-n.was ∙ c.admit_receiver.ensures _ (length_cells a.store.now) in
    rw (passed_on _ c.from_residual.ensures) (
    listen_written _ a.store.now cells _ (sym ok.1) (listen_refused _ a.plan.now a.phase cells _ _ met)
    ∙ ap (λ (d : Device). listened_bytes (listen_step d a.plan.now a.phase cells)) c.khz50_device-d.ensures
    ∙ even_listen khz50 a.plan.now a.phase a.store.now ok.0
    )

pub returns : goal.returns
returns c =
    let k = c in
    let a = k.args in
    let cells = cells_of a.store.now in
    let ok = even (goal.at.returns c).Else-halved in
    let made = c.write_same.ensures ∙ put_bytes a.store.now 0 (replicate k.in_ok-n.n filler) ok.1 in
    listen_written _ _ _ _ made (listening _ a.plan.now a.phase cells _ (counted (goal.at.returns c).In_ok-n) _ refl)
    ∙ ap (λ (d : Device). listened_bytes (listen_step d a.plan.now a.phase cells)) k.khz50_device-d.ensures
    ∙ even_listen khz50 a.plan.now a.phase a.store.now ok.0
