-- `receivegrounds::admit` meets its contract: one law for each return. Assumes nothing.
use Prim.Native.Nat.{ℕ, ◌≤◌, ◌<◌}
use mathlib.Core.Path.{◌≡◌, sym, ap, ◌∙◌, subst}
use mathlib.Core.List.{List}
use native.Mathlib.Omega.{arith}
use lib.ListN.{length, take, replicate, length-replicate}
use lib.Seq.{length-take-le, length_front}
use Rattle.rules.specs.Refusals.{Verdict}
use Rattle.rules.proofs.Findings.{passed_on}
use Rattle.std.specs.Prelude.{Ok}
use Rattle.rules.specs.Device.{phases}
use Rattle.rules.specs.Plan.{plan_of}
use Rattle.rules.specs.Frame.{frame_of}
use Rattle.rules.specs.Loads.{ground25}
use Rattle.rules.specs.Receive.{out_count}
use Rattle.verdicts.specs.Studied.{StudiedIf}
use Rattle.verdicts.proofs.Verdicts.{first_ground}
use Rattle.spots.proofs.Frames.{cells_le}
use Rattle.steps.specs.Ready.{Ready}
use Rattle.steps.proofs.Accepted.{ready}
use Rattle.receiving.proofs.Answers.{at, arriving}
use Rattle.receivegrounds.specs.Stages.{early_grounds, late_grounds, answered}
use Rattle.receivegrounds.proofs.Stages.{prepared_front, early_count, early_refused, early_lent}
use Rattle.receivegrounds.proofs.Admissions.{not_admitted, bad_plan, bad_profile, bad_early, good_early}
use Rattle.receivegrounds.proofs.admit.Goals as goal
use Rattle.receivegrounds.proofs.admit.Goals.{After-number_at-m, In_ok-n, In_ok-nd, In_ok-profile_ground}

-- the plan is ready for the step
accepted : (c : In_ok-n) → Ready c.args.d c.args.plan.now c.in_ok-n.n c.study.new.m
accepted c =
    let g = c in
    let study = c.study in
    ready g.args.d g.args.plan.now _ _ g.requires.0 g.requires.1 (sym c.in_ok-n.was ∙ study.ensures.0) (subst (λ (v : Verdict). StudiedIf v g.args.d g.args.plan.now study.new.m) c.in_ok-n.was study.ensures.1)

-- its cells are no more than the subcarriers
low : (c : In_ok-n) → c.in_ok-n.n ≤ c.args.d.subcarriers
unfolding frame_of
low c = omega (arith, (accepted c).all, cells_le ((frame_of c.args.d (plan_of c.args.plan.now))))

-- so many places of either array are lent
spots_size : (c : In_ok-n) → length (take c.in_ok-n.n c.args.kc.now) ≡ c.in_ok-n.n
spots_size c = length-take-le c.in_ok-n.n c.args.kc.now (omega (arith, low c, c.requires.3))

flags_size : (c : In_ok-n) → length (take c.in_ok-n.n c.args.flag.now) ≡ c.in_ok-n.n
flags_size c = length-take-le c.in_ok-n.n c.args.flag.now (omega (arith, low c, c.requires.4))

-- the depth
deep : (c : After-number_at-m) → c.number_at-m.result ≡ (plan_of c.args.plan.now).depth
unfolding plan_of
deep c = c.number_at-m.ensures.0

-- ground 25 does not refuse the profile
listed_here : (c : In_ok-profile_ground) → ground25 c.args.d.subcarriers c.args.profile.now ≡ (Ok tt)
listed_here c = sym c.profile_ground.ensures ∙ c.in_ok-profile_ground.was

listed : (c : In_ok-profile_ground) → ground25 ((frame_of c.args.d (plan_of c.args.plan.now))).width c.args.profile.now ≡ (Ok tt)
unfolding frame_of
listed c = listed_here c

counted : (c : In_ok-nd) (s y : List ℕ) → length s ≡ c.args.places → length y ≡ c.args.width → (((Ok tt) ≡ early_grounds ((frame_of c.args.d (plan_of c.args.plan.now))) (at c.args.state s) y) × (c.in_ok-nd.nd ≡ out_count ((frame_of c.args.d (plan_of c.args.plan.now))) c.args.state))
counted c s y es ey = let g = c in early_count ((frame_of g.args.d (plan_of g.args.plan.now))) (at g.args.state s) y _ (sym c.in_ok-nd.was ∙ c.ready.ensures.answer s y es ey)

-- what the early grounds leave, whatever is lent
left : (c : In_ok-nd) → (c.in_ok-nd.nd ≡ out_count ((frame_of c.args.d (plan_of c.args.plan.now))) c.args.state) × (c.args.state.phase < phases) × (c.args.width ≡ c.args.d.subcarriers)
unfolding frame_of
left c =
    let a = c.args in
    let s : List ℕ = replicate a.places 0 in
    let y : List ℕ = replicate a.width 0 in
    let told = counted c s y (length-replicate a.places 0) (length-replicate a.width 0) in
    let w = early_lent ((frame_of c.args.d (plan_of c.args.plan.now))) (at a.state s) y told.0 in
    (told.1, w.phase_in, sym (length-replicate {A = ℕ} a.width 0) ∙ w.whole)

pub returns-in_err-profile_ground : goal.returns-in_err-profile_ground
unfolding frame_of
returns-in_err-profile_ground c =
    let g = c in rw (passed_on _ c.from_residual-in_err-profile_ground.ensures) (record { answer = λ s y b es ey eb. bad_profile g.args.d g.args.plan.now (at g.args.state s) (arriving g.args.profile.now y b) (accepted (goal.at.returns-in_err-profile_ground c).In_ok-n).fine _ _ (sym c.profile_ground.ensures ∙ c.in_err-profile_ground.was); made = λ m n nd e. absurd (not_admitted e) })

pub number_at-m-requires : goal.number_at-m-requires
number_at-m-requires c = omega (arith, (accepted (goal.at.number_at-m-requires c).In_ok-n).studied.long)

pub slice_bounds-ready-end : goal.slice_bounds-ready-end
slice_bounds-ready-end c = omega (arith, low (goal.at.slice_bounds-ready-end c).In_ok-n, c.requires.3)

pub slice_bounds-ready-end-2 : goal.slice_bounds-ready-end-2
slice_bounds-ready-end-2 c = sym (spots_size (goal.at.slice_bounds-ready-end-2 c).In_ok-n)

pub slice_bounds-ready-end-3 : goal.slice_bounds-ready-end-3
slice_bounds-ready-end-3 c = omega (arith, low (goal.at.slice_bounds-ready-end-3 c).In_ok-n, c.requires.4)

pub slice_bounds-ready-end-4 : goal.slice_bounds-ready-end-4
slice_bounds-ready-end-4 c = sym (flags_size (goal.at.slice_bounds-ready-end-4 c).In_ok-n)

pub ready-requires : goal.ready-requires
ready-requires c =
    let a = c.args in
    (subst (λ (n : ℕ). Ready a.d a.plan.now n c.study.new.m) (sym (spots_size (goal.at.ready-requires c).In_ok-n)) (accepted (goal.at.ready-requires c).In_ok-n), deep (goal.at.ready-requires c).After-number_at-m, flags_size (goal.at.ready-requires c).In_ok-n ∙ sym (spots_size (goal.at.ready-requires c).In_ok-n))

pub last_grounds-requires : goal.last_grounds-requires
last_grounds-requires c = let w = left (goal.at.last_grounds-requires c).In_ok-nd in (accepted (goal.at.last_grounds-requires c).In_ok-n, deep (goal.at.last_grounds-requires c).After-number_at-m, w.0, listed_here (goal.at.last_grounds-requires c).In_ok-profile_ground, w.1, w.2, c.requires.2 w.2)

pub returns-in_err-n : goal.returns-in_err-n
returns-in_err-n c =
    let g = c in rw (passed_on _ c.from_residual.ensures) (record { answer = λ s y b es ey eb. bad_plan g.args.d g.args.plan.now (at g.args.state s) (arriving g.args.profile.now y b) _ _ (first_ground g.args.d g.args.plan.now _ _ (sym c.in_err-n.was ∙ c.study.ensures.0)); made = λ m n nd e. absurd (not_admitted e) })

pub shape_of-kc-in_err-nd : goal.shape_of-kc-in_err-nd
shape_of-kc-in_err-nd c = length_front c.args.kc.now c.ready.new.kc c.in_ok-n.n c.ready.auto.kc

pub shape_of-flag-in_err-nd : goal.shape_of-flag-in_err-nd
shape_of-flag-in_err-nd c = length_front c.args.flag.now c.ready.new.flag c.in_ok-n.n c.ready.auto.flag

pub returns-in_err-nd : goal.returns-in_err-nd
returns-in_err-nd c =
    let g = c in rw (passed_on _ c.from_residual-in_err-nd.ensures) (record { answer = λ s y b es ey eb. bad_early g.args.d g.args.plan.now (at g.args.state s) (arriving g.args.profile.now y b) (accepted (goal.at.returns-in_err-nd c).In_ok-n).fine (listed (goal.at.returns-in_err-nd c).In_ok-profile_ground) _ _ (early_refused ((frame_of g.args.d (plan_of g.args.plan.now))) (at g.args.state s) y _ _ (sym c.in_err-nd.was ∙ c.ready.ensures.answer s y es ey.number)); made = λ m n nd e. absurd (not_admitted e) })

pub shape_of-kc : goal.shape_of-kc
shape_of-kc c = length_front c.args.kc.now c.ready.new.kc c.in_ok-n.n c.ready.auto.kc

pub shape_of-flag : goal.shape_of-flag
shape_of-flag c = length_front c.args.flag.now c.ready.new.flag c.in_ok-n.n c.ready.auto.flag

pub returns : goal.returns
returns c =
    let g = c in
    let a = g.args in
    let ready = c.ready in
    let n = c in record {
      answer = λ s y b es ey eb.
          c.last_grounds.ensures b eb
          ∙ ap (λ (x : List ℕ). answered ((frame_of g.args.d (plan_of g.args.plan.now))) a.state (late_grounds ((frame_of g.args.d (plan_of g.args.plan.now))) a.state (arriving a.profile.now x b))) (ey.read (g.requires.2 (left (goal.at.returns c).In_ok-nd).2))
          ∙ good_early a.d a.plan.now (at a.state s) (arriving a.profile.now y b) (accepted (goal.at.returns c).In_ok-n).fine (listed (goal.at.returns c).In_ok-profile_ground) (counted (goal.at.returns c).In_ok-nd s y es ey.number).0;
      made = λ m k i e.
          prepared_front ((frame_of g.args.d (plan_of g.args.plan.now))) _ _ _ _ _ (ready.ensures.made _ c.in_ok-nd.was);
    }
