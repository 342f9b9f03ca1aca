-- `startgrounds::admit_receiver` meets its contract: what `admit` found, and ground 17 with a receiver's places. Assumes nothing.
use Prim.Native.Nat.{◌≤◌, ◌<◌}
use mathlib.Core.Path.{◌≡◌, sym, ◌∙◌}
use native.Mathlib.Omega.{arith}
use Rattle.std.specs.Prelude.{Ok}
use Rattle.rules.specs.Device.{phases}
use Rattle.rules.specs.Fits.{capacity}
use Rattle.rules.specs.Plan.{plan_of}
use Rattle.rules.specs.Frame.{frame_of}
use Rattle.rules.specs.Store.{receiver_places}
use Rattle.startgrounds.specs.Admit.{phase_verdict, none}
use Rattle.places.proofs.Sizes.{receiver_places_are}
use Rattle.rules.proofs.Findings.{passed_on}
use Rattle.startgrounds.proofs.Starts.{few, receiver_small, StartInOrder, in_order, by_earlier, by_store, by_none, receiver_refused, receiver_counted, depth_small}
use Rattle.startgrounds.proofs.admit_receiver.Goals as goal
use Rattle.startgrounds.proofs.admit_receiver.Goals.{After-number_at-m, After-receiver_places-need, In_ok-n}

-- no ground of 1 to 16 holds
accepted : (c : In_ok-n) → Ok c.in_ok-n.n ≡ phase_verdict c.args.d c.args.plan.now c.args.phase
accepted c = sym c.in_ok-n.was ∙ c.admit.ensures.answer

known : (c : In_ok-n) → StartInOrder c.args.d c.args.plan.now c.args.phase c.in_ok-n.n
known c = let a = c.args in in_order a.d a.plan.now a.phase _ (accepted c)

-- the depth
deep : (c : After-number_at-m) → c.number_at-m.result ≡ (plan_of c.args.plan.now).depth
unfolding plan_of
deep c = c.number_at-m.ensures.0

-- the places of a receiver
need : (c : After-receiver_places-need) → c.receiver_places-need.result ≡ receiver_places (frame_of c.args.d (plan_of c.args.plan.now))
unfolding plan_of
need c =
    c.receiver_places-need.ensures ∙ receiver_places_are (frame_of c.args.d (plan_of c.args.plan.now)) _ _ (unfold frame_of in (let it : c.number_at-m.result ≡ (plan_of c.args.plan.now).depth = c.number_at-m.ensures.0 in it)) (in_order c.args.d c.args.plan.now c.args.phase c.in_ok-n.n (sym c.in_ok-n.was ∙ c.admit.ensures.answer)).all

-- the depth is 1 to 128, and N_I at most 4,096
small : (c : After-number_at-m) → (0 < c.number_at-m.result) × (c.number_at-m.result ≤ phases) × (c.in_ok-n.n ≤ capacity)
small c =
    let depth = depth_small c.args.d c.args.plan.now c.args.phase _ c.requires.0 c.requires.1 (in_order c.args.d c.args.plan.now c.args.phase c.in_ok-n.n (sym c.in_ok-n.was ∙ c.admit.ensures.answer)) in
    (omega (arith, deep c, depth.0), omega (arith, deep c, depth.1), few c.args.d c.args.plan.now _ c.requires.0 (in_order c.args.d c.args.plan.now c.args.phase c.in_ok-n.n (sym c.in_ok-n.was ∙ c.admit.ensures.answer)).all)

pub number_at-m-requires : goal.number_at-m-requires
number_at-m-requires c = omega (arith, (known c).long)

pub receiver_places-need-requires : goal.receiver_places-need-requires
receiver_places-need-requires c = ((small c).0, omega (arith, (small c).1), (small c).2)

pub returns-then-places-need : goal.returns-then-places-need
returns-then-places-need c =
    let a = c.args in
    λ s e. receiver_refused a.d a.plan.now a.phase s _ _ (by_store receiver_places none a.d a.plan.now a.phase s _ (accepted (goal.at.returns-then-places-need c).In_ok-n) (omega (arith, e, need (goal.at.returns-then-places-need c).After-receiver_places-need, c.if-places-need.true)))

pub overflow_cast-result : goal.overflow_cast-result
overflow_cast-result c =
    omega (arith, c.receiver_places-need.ensures, receiver_small _ _ (small (goal.at.overflow_cast-result c).After-number_at-m).0 (small (goal.at.overflow_cast-result c).After-number_at-m).1 (small (goal.at.overflow_cast-result c).After-number_at-m).2)

pub returns-in_err-n : goal.returns-in_err-n
returns-in_err-n c =
    let a = c.args in
    rw (passed_on _ c.from_residual.ensures) (λ s e. receiver_refused a.d a.plan.now a.phase s _ _ (by_earlier receiver_places none a.d a.plan.now a.phase s _ _ (sym c.in_err-n.was ∙ c.admit.ensures.answer)))

pub returns : goal.returns
returns c =
    let a = c.args in
    λ s e. receiver_counted a.d a.plan.now a.phase s _ (need (goal.at.returns c).After-receiver_places-need) (by_none receiver_places none a.d a.plan.now a.phase s _ (accepted (goal.at.returns c).In_ok-n) (omega (arith, e, need (goal.at.returns c).After-receiver_places-need, c.if-places-need.false)) (omega arith))
