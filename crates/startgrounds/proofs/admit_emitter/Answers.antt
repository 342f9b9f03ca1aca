-- `startgrounds::admit_emitter` meets its contract: what `admit` found, grounds 17 and 27 with an emitter's places, and the first N_I places as `spots`
-- leaves them. Assumes nothing.
use Prim.Native.Nat.{ℕ, ◌≤◌, ◌<◌}
use mathlib.Core.Path.{◌≡◌, refl, sym, ap, ◌∙◌, subst}
use native.Mathlib.Omega.{arith}
use lib.ListN.{length, take, drop}
use lib.Seq.{length-take-le}
use Rattle.counting.specs.Search.{pick}
use Rattle.rules.specs.Refusals.{Verdict}
use Rattle.std.specs.Prelude.{Ok}
use Rattle.rules.specs.Fits.{capacity}
use Rattle.rules.specs.Plan.{plan_of}
use Rattle.rules.specs.Frame.{frame_of}
use Rattle.verdicts.specs.Studied.{Studied, StudiedIf}
use Rattle.startgrounds.specs.Admit.{phase_verdict}
use Rattle.places.proofs.Sizes.{emitter_places_are}
use Rattle.figure.specs.Needs.{places17, places27}
use Rattle.figure.proofs.Sizes.{literal_places_are}
use Rattle.rules.proofs.Findings.{passed_on}
use Rattle.startgrounds.proofs.Starts.{few, StartInOrder, in_order, by_earlier, by_store, by_lines, by_none, emitter_refused, emitter_accepted, depth_small, spotted}
use Rattle.startgrounds.proofs.admit_emitter.Goals as goal
use Rattle.startgrounds.proofs.admit_emitter.Goals.{After-number_at-m, After-places_17, After-places_27, In_ok-n}

-- no ground of 1 to 16 holds
accepted : (c : In_ok-n) → Ok c.in_ok-n.n ≡ phase_verdict c.args.d c.args.plan.now c.args.phase
accepted c = sym c.in_ok-n.was ∙ c.admit.ensures.answer

studied : (c : In_ok-n) → Studied c.args.d c.args.plan.now c.admit.new.marks
studied c =
    let a = c.args in
    let w = c.admit in
    subst (λ (v : Verdict). StudiedIf v a.d a.plan.now w.new.marks) c.in_ok-n.was w.ensures.studied

known : (c : In_ok-n) → StartInOrder c.args.d c.args.plan.now c.args.phase c.in_ok-n.n
known c = let a = c.args in in_order a.d a.plan.now a.phase _ (accepted c)

-- the cells fit the lent array
low : (c : In_ok-n) → c.in_ok-n.n ≤ length c.args.kc.now
low c =
    omega (arith, few c.args.d c.args.plan.now _ c.requires.0 (known c).all, c.requires.2)

size : (c : In_ok-n) → length (take c.in_ok-n.n c.args.kc.now) ≡ c.in_ok-n.n
size c = length-take-le c.in_ok-n.n c.args.kc.now (low c)

-- the depth
deep : (c : After-number_at-m) → c.number_at-m.result ≡ (plan_of c.args.plan.now).depth
unfolding plan_of
deep c = c.number_at-m.ensures.0

-- the places of an emitter's store, by 17 and by 27
need : (c : After-places_17) → c.places_17.result ≡ places17 c.args.literal (frame_of c.args.d (plan_of c.args.plan.now))
unfolding frame_of plan_of
need c =
    let a = c.args in
    c.places_17.ensures ∙ ap (pick a.literal 0) (emitter_places_are (frame_of a.d (plan_of a.plan.now)) _ _ (let it : c.number_at-m.result ≡ (frame_of a.d (plan_of a.plan.now)).depth = c.number_at-m.ensures.0 in it) (in_order c.args.d c.args.plan.now c.args.phase c.in_ok-n.n (sym c.in_ok-n.was ∙ c.admit.ensures.answer)).all)

lines : (c : After-places_27) → c.places_27.result ≡ places27 c.args.literal (frame_of c.args.d (plan_of c.args.plan.now))
unfolding frame_of plan_of
lines c =
    let a = c.args in
    c.places_27.ensures ∙ ap (λ (n : ℕ). pick a.literal n 0) (literal_places_are (frame_of a.d (plan_of a.plan.now)) _ _ (let it : c.number_at-m.result ≡ (frame_of a.d (plan_of a.plan.now)).depth = c.number_at-m.ensures.0 in it) (in_order c.args.d c.args.plan.now c.args.phase c.in_ok-n.n (sym c.in_ok-n.was ∙ c.admit.ensures.answer)).all)

-- numbers that the places are worked out from
small : (c : After-number_at-m) → (0 < c.number_at-m.result) × (c.number_at-m.result ≤ capacity) × (c.in_ok-n.n ≤ capacity)
small c =
    let low = depth_small c.args.d c.args.plan.now c.args.phase _ c.requires.0 c.requires.1 (in_order c.args.d c.args.plan.now c.args.phase c.in_ok-n.n (sym c.in_ok-n.was ∙ c.admit.ensures.answer)) in
    (omega (arith, deep c, low.0), omega (arith, deep c, low.1), few c.args.d c.args.plan.now _ c.requires.0 (in_order c.args.d c.args.plan.now c.args.phase c.in_ok-n.n (sym c.in_ok-n.was ∙ c.admit.ensures.answer)).all)

pub admit-requires : goal.admit-requires
admit-requires c = (c.requires.0, refl)

pub number_at-m-requires : goal.number_at-m-requires
number_at-m-requires c = omega (arith, (known c).long)

pub places_17-requires : goal.places_17-requires
places_17-requires c = small c

pub returns-then-places-places_17 : goal.returns-then-places-places_17
returns-then-places-places_17 c =
    let a = c.args in
    record { answer = λ s e. emitter_refused a.literal a.d a.plan.now a.phase s _ _ (by_store (places17 a.literal) (places27 a.literal) a.d a.plan.now a.phase s _ (accepted (goal.at.returns-then-places-places_17 c).In_ok-n) (omega (arith, e, need (goal.at.returns-then-places-places_17 c).After-places_17, c.if-places-places_17.true))); spotted = tt }

pub places_27-requires : goal.places_27-requires
places_27-requires c = small (goal.at.places_27-requires c).After-number_at-m

pub returns-then-places-places_27 : goal.returns-then-places-places_27
returns-then-places-places_27 c =
    let a = c.args in
    record { answer = λ s e. emitter_refused a.literal a.d a.plan.now a.phase s _ _ (by_lines (places17 a.literal) (places27 a.literal) a.d a.plan.now a.phase s _ (accepted (goal.at.returns-then-places-places_27 c).In_ok-n) (omega (arith, e, need (goal.at.returns-then-places-places_27 c).After-places_17, c.if-places-places_17.false)) (omega (arith, e, lines (goal.at.returns-then-places-places_27 c).After-places_27, c.if-places-places_27.true))); spotted = tt }

pub slice_bounds-spots-end-2 : goal.slice_bounds-spots-end-2
slice_bounds-spots-end-2 c = low (goal.at.slice_bounds-spots-end-2 c).In_ok-n

pub slice_bounds-spots-end-3 : goal.slice_bounds-spots-end-3
slice_bounds-spots-end-3 c = sym (size (goal.at.slice_bounds-spots-end-3 c).In_ok-n)

pub spots-requires : goal.spots-requires
spots-requires c =
    (c.requires.0, studied (goal.at.spots-requires c).In_ok-n, refl, size (goal.at.spots-requires c).In_ok-n ∙ (known (goal.at.spots-requires c).In_ok-n).all)

pub returns-in_err-n : goal.returns-in_err-n
returns-in_err-n c =
    let a = c.args in
    rw (passed_on _ c.from_residual.ensures) (record { answer = λ s e. emitter_refused a.literal a.d a.plan.now a.phase s _ _ (by_earlier (places17 a.literal) (places27 a.literal) a.d a.plan.now a.phase s _ _ (sym c.in_err-n.was ∙ c.admit.ensures.answer)); spotted = tt })

pub returns : goal.returns
returns c =
    let a = c.args in
    let made = c.spots in
    let same = made.auto.kc ∙ size (goal.at.returns c).In_ok-n in record {
      answer = λ s e. emitter_accepted a.literal a.d a.plan.now a.phase s _ (known (goal.at.returns c).In_ok-n).all (by_none (places17 a.literal) (places27 a.literal) a.d a.plan.now a.phase s _ (accepted (goal.at.returns c).In_ok-n) (omega (arith, e, need (goal.at.returns c).After-places_17, c.if-places-places_17.false)) (omega (arith, e, lines (goal.at.returns c).After-places_27, c.if-places-places_27.false)));
      spotted = spotted a.d a.plan.now a.phase _ c.requires.0 c.requires.1 (known (goal.at.returns c).In_ok-n) _ made.new.kc (drop c.in_ok-n.n a.kc.now) (studied (goal.at.returns c).In_ok-n) same
          (λ p h. made.ensures.spots p (omega (arith, size (goal.at.returns c).In_ok-n, h)));
    }
