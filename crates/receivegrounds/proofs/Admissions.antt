-- What a receive step is answered, return by return, and what the answer tells of the step. Assumes nothing.
use mathlib.Core.Path.{◌≡◌, refl, sym, ap, ◌∙◌}
use mathlib.Core.List.{List, []}
use Prim.Native.Nat.{ℕ, ◌≤◌}
use native.Mathlib.Omega.{arith}
use Rattle.counting.proofs.Laws.{count_le}
use Rattle.rules.specs.declared.Device.{Device}
use Rattle.rules.specs.declared.Refusal.{Refusal}
use Rattle.rules.specs.Refusals.{Finding, refusal, refused_by, refused_step}
use Rattle.rules.proofs.Findings.{not_fine}
use Rattle.receivegrounds.specs.declared.Admitted.{Admitted}
use Rattle.std.specs.Prelude.{Ok, Err}
use Rattle.std.specs.Result.{result_unwrap_or}
use Rattle.rules.specs.declared.ReceiverState.{ReceiverState}
use Rattle.rules.specs.Device.{phases}
use Rattle.rules.specs.Plan.{plan_of}
use Rattle.rules.specs.Grounds.{◌else◌, grounds1to15}
use Rattle.rules.specs.Frame.{Frame, frame_of, cells}
use Rattle.rules.specs.Loads.{ground25}
use Rattle.rules.specs.Receive.{Receiver, Arrival, Receiving, hears, turned_away, out_count, receiver_ground16, receiver_ground17, ground20, receive_grounds, received, frame_receive, hear_step}
use Rattle.receiving.proofs.Answers.{arriving, unprofiled}
use Rattle.receivegrounds.specs.Stages.{Admission, early_grounds, late_grounds, answered, admission}
use Rattle.receivegrounds.specs.InOrder.{ReceiveInOrder}
use Rattle.receivegrounds.proofs.Stages.{fine_first, fine_last, early_heard, early_lent, late_room, in_stages}

-- a finding answered by a refusal is that ground, answered by an admission is none
answered_refused : (F : Frame) (v : ReceiverState) (g place : ℕ) (f : Finding) → refused_by g place ≡ answered F v f → f ≡ refused_by g place
answered_refused F v g place (Ok tt) e = let z : ◌≡◌ {A = ℕ} 0 1 = cc in absurd (omega arith)
answered_refused F v g place (Err r) e = cc

answered_admitted : (F : Frame) (v : ReceiverState) (m n nd : ℕ) (f : Finding) → Ok (record { depth = m; cells = n; count = nd }) ≡ answered F v f → (f ≡ Ok tt) × (m ≡ F.depth) × (n ≡ cells F) × (nd ≡ out_count F v)
answered_admitted F v m n nd (Ok tt) e =
    let a : Admitted = record { depth = 0; cells = 0; count = 0 } in
    (refl, ap (λ (x : Admission). (result_unwrap_or x a).depth) e, ap (λ (x : Admission). (result_unwrap_or x a).cells) e, ap (λ (x : Admission). (result_unwrap_or x a).count) e)
answered_admitted F v m n nd (Err r) e = let z : ◌≡◌ {A = ℕ} 0 1 = cc in absurd (omega arith)

-- a refusal is no admission
pub not_admitted : {r : Refusal} {a : Admitted} → ◌≡◌ {A = Admission} (Err r) (Ok a) → ⊥
not_admitted e = not_fine e

module _ (d : Device) (s : List ℕ) (v : Receiver) (a : Arrival) where
  -- the frame of the plan
  abbrev frame : Frame
  frame = frame_of d (plan_of s)

  -- ---- the returns

  -- refused as the verdict is
  pub bad_plan : (g place : ℕ) → grounds1to15 d s ≡ refused_by g place → refused_by g place ≡ admission d s v a
  unfolding admission
  bad_plan g place e = sym (ap (λ (f : Finding). answered frame v.state (f else receive_grounds frame v a)) e)

  -- refused by 25
  pub bad_profile : grounds1to15 d s ≡ Ok tt → (g place : ℕ) → ground25 frame.width a.profile ≡ refused_by g place → refused_by g place ≡ admission d s v a
  unfolding admission receive_grounds
  bad_profile fine g place e =
      sym
      (λ i. answered frame v.state
      (fine i
      else e i
      else receiver_ground16 frame v.state
      else receiver_ground17 frame v a
      else ground20 frame a.profile v.state.phase a.symbol))

  module _ (fine : grounds1to15 d s ≡ Ok tt) (listed : ground25 frame.width a.profile ≡ Ok tt) where
    -- left to the grounds from 16 on
    left : (f : Finding) → (early_grounds frame v a.symbol else late_grounds frame v.state a) ≡ f → answered frame v.state f ≡ admission d s v a
    unfolding admission
    left f e = ap (answered frame v.state) (sym e ∙ in_stages frame v a listed) ∙ sym (ap (λ (x : Finding). answered frame v.state (x else receive_grounds frame v a)) fine)

    -- refused by an early one
    pub bad_early : (g place : ℕ) → refused_by g place ≡ early_grounds frame v a.symbol → refused_by g place ≡ admission d s v a
    bad_early g place e = left (refused_by g place) (sym (ap (λ (x : Finding). x else late_grounds frame v.state a) e))

    -- left to the late ones
    pub good_early : (Ok tt) ≡ early_grounds frame v a.symbol → answered frame v.state (late_grounds frame v.state a) ≡ admission d s v a
    good_early e = left (late_grounds frame v.state a) (sym (ap (λ (x : Finding). x else late_grounds frame v.state a) e))

  -- ---- what the answer tells

  -- the step as a function of its finding
  step : Finding → Receiving
  step f = elim f [ Ok _ ↦ received frame v a | Err r ↦ turned_away v a r ]

  stepped : (f : Finding) → step (f else receive_grounds frame v a) ≡ elim f [ Ok _ ↦ frame_receive frame v a | Err r ↦ turned_away v a r ]
  unfolding step frame_receive
  stepped (Ok tt) = refl
  stepped (Err r) = refl

  found : (f : Finding) → (grounds1to15 d s else receive_grounds frame v a) ≡ f → step f ≡ hear_step d s v a
  unfolding hear_step
  found f e = ap step (sym e) ∙ stepped (grounds1to15 d s)

  -- a refused step changes nothing and hands the state back
  pub refused : (g place : ℕ) → refused_by g place ≡ admission d s v a → hears (refused_step (refusal g place) v.state) v.store a.buffer ≡ hear_step d s v a
  unfolding admission step
  refused g place e = found (refused_by g place) (answered_refused frame v.state g place _ e)

  module _ (m n nd : ℕ) (e : Ok (record { depth = m; cells = n; count = nd }) ≡ admission d s v a) where
    told : ((grounds1to15 d s else receive_grounds frame v a) ≡ Ok tt) × (m ≡ frame.depth) × (n ≡ cells frame) × (nd ≡ out_count frame v.state)
    unfolding admission
    told = answered_admitted frame v.state m n nd _ e

    -- no ground refuses
    pub none_refuses : received frame v (arriving [] a.symbol a.buffer) ≡ hear_step d s v a
    unfolding step
    none_refuses = unprofiled frame v a ∙ found (Ok tt) told.0

    -- what the step relies on
    pub admitted : frame.depth ≤ phases → ReceiveInOrder frame v (arriving [] a.symbol a.buffer) m n nd
    unfolding frame_of cells receive_grounds
    admitted deep =
        let fine : (Ok tt) ≡ (grounds1to15 d s else receive_grounds frame v a) = sym told.0 in
        let given : (Ok tt) ≡ receive_grounds frame v a = fine_last (grounds1to15 d s) _ fine in
        let listed : ground25 frame.width a.profile ≡ Ok tt = sym (fine_first (ground25 frame.width a.profile) _ given) in
        let staged : (Ok tt) ≡ (early_grounds frame v a.symbol else late_grounds frame v.state a) = given ∙ sym (in_stages frame v a listed) in
        let early = fine_first _ (late_grounds frame v.state a) staged in
        let lent = early_lent frame v a.symbol early in
        let em = told.1 in
        let en = told.2 in
        record {
          deep = em;
          shallow = omega (arith, em, deep);
          all = en;
          few = omega (arith, en, count_le frame.ranked frame.width);
          phase_in = lent.phase_in;
          heard_in = omega (arith, early_heard frame v a.symbol early, em);
          places_fit = lent.places_fit;
          whole = lent.whole;
          number = told.3;
          room = λ h. omega (arith, told.3, late_room frame v.state a (fine_last (early_grounds frame v a.symbol) _ staged) (omega (arith, h, em)));
        }
