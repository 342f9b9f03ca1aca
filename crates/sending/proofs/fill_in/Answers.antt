-- `sending::fill_in` meets its contract. One law for each return. Assumes nothing.
use Prim.Native.Nat.{◌≤◌}
use mathlib.Core.Path.{◌≡◌, sym, ◌∙◌}
use native.Mathlib.Omega.{arith}
use lib.ListN.{length, take}
use lib.Seq.{length-take-le}
use Rattle.rules.specs.Plan.{plan_of}
use Rattle.rules.specs.Frame.{frame_of}
use Rattle.fill.proofs.Inputs.{flushed}
use Rattle.spots.proofs.Frames.{cells_le, data_le}
use Rattle.sending.proofs.GivenLaws.{by_flush, bad_number, by_data}
use Rattle.sending.proofs.fill_in.Goals as goal
use Rattle.sending.proofs.fill_in.Goals.{Else-number-nd}

-- N_D cells are given
many : (c : Else-number-nd) → let a = c.args in a.nd ≤ length a.given.now
unfolding frame_of
many c =
    omega (arith, c.if-number-nd.false, c.requires.8 (omega (arith, c.if-number-nd.false, c.requires.7, data_le (frame_of c.args.d (plan_of c.args.plan.now)) c.args.phase, cells_le (frame_of c.args.d (plan_of c.args.plan.now)))))

-- and are so many of the first ones
part : (c : Else-number-nd) → let a = c.args in length (take a.nd a.given.now) ≡ a.nd
part c = let a = c.args in length-take-le a.nd a.given.now (many c)

pub returns-then-flushing : goal.returns-then-flushing
returns-then-flushing c =
    let a = c.args in
    λ ds _. by_flush (frame_of c.args.d (plan_of c.args.plan.now)) a.profile.now a.phase _ a.flushing c.if-flushing.true
    (flushed (frame_of c.args.d (plan_of c.args.plan.now)) a.phase a.flag.now c.requires.6 _ _ c.requires.2 c.fill_filler.ensures) ds

pub returns-then-number-nd : goal.returns-then-number-nd
returns-then-number-nd c =
    let a = c.args in
    bad_number (frame_of c.args.d (plan_of c.args.plan.now)) a.profile.now a.phase _ a.flushing c.if-flushing.false a.number a.given.now (λ z. c.if-number-nd.true (z ∙ sym c.requires.7))

pub slice_bounds-fill_checked-end : goal.slice_bounds-fill_checked-end
slice_bounds-fill_checked-end c = sym (part c)

pub fill_checked-requires : goal.fill_checked-requires
fill_checked-requires c =
    (c.requires.0, c.requires.1 c.if-flushing.false, c.requires.2, c.requires.3, c.requires.4, c.requires.5, c.requires.6, part (goal.at.fill_checked-requires c).Else-number-nd ∙ c.requires.7)

pub returns : goal.returns
returns c =
    let a = c.args in
    by_data (frame_of c.args.d (plan_of c.args.plan.now)) a.profile.now a.phase _ a.flushing c.if-flushing.false a.number a.given.now a.nd (many (goal.at.returns c).Else-number-nd) c.if-number-nd.false c.requires.7 _
    c.fill_checked.ensures.found c.fill_checked.ensures.made
