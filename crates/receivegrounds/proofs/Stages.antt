-- The stages of the grounds of a receive step, return by return, and what they leave. Assumes nothing.
use mathlib.Core.Path.{◌≡◌, refl, sym, ap, ◌∙◌, subst}
use mathlib.Core.Logic.{⊎_elim}
use mathlib.Core.Bool.{Bool, true, false, not, ◌&&◌, ◌||◌}
use mathlib.Core.List.{List, ◌++◌}
use Prim.Native.Nat.{ℕ, ◌-◌, ◌≤◌, ◌<◌}
use native.Mathlib.Omega.{arith}
use lib.Dec.{leb, ltb, eqb}
use lib.ListN.{length, length-append, get_or-append}
use borrow.Author.Tests.{le-ltb, le-leb, lt-leb, ltb-false}
use Rattle.counting.specs.Search.{when, lowest}
use Rattle.counting.proofs.Bools.{or_false, or_true, decide}
use Rattle.rules.specs.Refusals.{Finding, CountAnswer, refused_by}
use Rattle.std.specs.Prelude.{Ok, Err, Option}
use Rattle.rules.specs.declared.ReceiverState.{ReceiverState}
use Rattle.rules.specs.Device.{phases}
use Rattle.rules.specs.Grounds.{◌else◌, ground?}
use Rattle.rules.specs.Frame.{Frame, cells, data_count}
use Rattle.rules.specs.Loads.{ground25}
use Rattle.rules.specs.Store.{receiver_places}
use Rattle.rules.specs.Steps.{ground16, short_store, ground17}
use Rattle.rules.specs.Receive.{Receiver, Arrival, warming, out_phase, out_count, receiver_ground16, short_buffer, receiver_ground17, wrong_cell, ground20, receive_grounds}
use Rattle.verdicts.proofs.Verdicts.{else_assoc}
use Rattle.steps.specs.Ready.{ready_answer, Made, MadeIf}
use Rattle.steps.proofs.Lent.{Lent, lent, told, told_count_lem, told_refused, no_ground}
use Rattle.receivegrounds.specs.Stages.{early_grounds, late_grounds, early_answer}
use Rattle.receivegrounds.specs.InOrder.{Prepared}

-- where there is no ground among two findings, neither is one
pub fine_first : (f g : Finding) → Ok tt ≡ (f else g) → Ok tt ≡ f
fine_first (Ok tt) g e = refl
fine_first (Err r) g e = e

pub fine_last : (f g : Finding) → Ok tt ≡ (f else g) → Ok tt ≡ g
fine_last (Ok tt) g e = e
fine_last (Err r) g e = absurd (no_ground r.number r.place (Err r) refl e)

-- nor does its test hold
fine_test : (n : ℕ) (b : Bool) → Ok tt ≡ ground? n (when b 0) → b ≡ false
fine_test n true e = absurd (no_ground n 0 (refused_by n 0) refl e)
fine_test n false e = refl

-- a ground of two tests is the first or the second
parts : (n : ℕ) (p q : Bool) → (ground? n (when p 0) else ground? n (when q 0)) ≡ ground? n (when (p || q) 0)
parts n true q = refl
parts n false q = refl

-- ---- what is made of the plan

-- a refusal is no count
pub no_count : (n place k : ℕ) → ◌≡◌ {A = CountAnswer} (refused_by n place) (Ok k) → ⊥
no_count n place k e = let z : ◌≡◌ {A = ℕ} 0 1 = cc in absurd (omega arith)

-- where the answer is a count, at the phase by another name
pub prepared : (F : Frame) (j k n : ℕ) (r : CountAnswer) (car kc flag : List ℕ) → j ≡ k → r ≡ Ok n → MadeIf r F j car kc flag → F.depth ≤ phases → cells F ≤ length kc → cells F ≤ length flag → Prepared F k kc flag
prepared F j k n r car kc flag ej er w deep hk hf =
    let made = subst (λ (i : ℕ). Made F i car kc flag) ej (subst (λ (q : CountAnswer). MadeIf q F j car kc flag) er w) in
    record { shallow = deep; cells_fit = hk; flags_fit = hf; spots = made.spots; flags = made.flags }

-- at the start of longer lists
pub prepared_front : (F : Frame) (j : ℕ) (kc flag more rest : List ℕ) → Prepared F j kc flag → Prepared F j (kc ++ more) (flag ++ rest)
prepared_front F j kc flag more rest w = record {
  shallow = w.shallow;
  cells_fit = omega (arith, w.cells_fit, length-append kc more);
  flags_fit = omega (arith, w.flags_fit, length-append flag rest);
  spots = λ p h. get_or-append kc more 0 p (omega (arith, h, w.cells_fit)) ∙ w.spots p h;
  flags = λ p h. get_or-append flag rest 0 p (omega (arith, h, w.flags_fit)) ∙ w.flags p h;
}

-- ---- the early grounds

module _ (F : Frame) (v : Receiver) (y : List ℕ) where
  -- the early grounds as a function of what 16 finds, and of its test
  with16 : Finding → Finding
  with16 f = f else ground17 F (receiver_places F) v.store y

  tested : Bool → Finding
  tested t = with16 (ground? 16 (when t 0))

  bad_heard : F.depth ≤ v.state.heard → refused_by 16 0 ≡ early_grounds F v y
  unfolding early_grounds receiver_ground16 tested with16
  bad_heard h =
      sym
      (ap (λ (t : Bool). tested (leb F.phases v.state.phase || t)) (le-leb F.depth v.state.heard h)
      ∙ ap tested (or_true (leb F.phases v.state.phase)))

  good_heard : v.state.heard < F.depth → (ground16 F v.state.phase else ground17 F (receiver_places F) v.store y) ≡ early_grounds F v y
  unfolding early_grounds receiver_ground16 ground16 tested with16
  good_heard h =
      sym
      (ap (λ (t : Bool). tested (leb F.phases v.state.phase || t)) (lt-leb F.depth v.state.heard h)
      ∙ ap tested (or_false (leb F.phases v.state.phase)))

  -- the answers: refused for heard, or as every step
  pub heard_out : F.depth ≤ v.state.heard → refused_by 16 0 ≡ early_answer F v y
  unfolding early_answer
  heard_out h = ap (told (out_count F v.state)) (bad_heard h)

  pub heard_in : v.state.heard < F.depth → (need j : ℕ) → need ≡ receiver_places F → j ≡ out_phase F v.state.phase → ready_answer F v.state.phase need v.store y j ≡ early_answer F v y
  unfolding early_answer ready_answer
  heard_in h need j en ej =
      (λ i. told (data_count F (ej i)) (ground16 F v.state.phase else ground17 F (en i) v.store y))
      ∙ ap (told (out_count F v.state)) (good_heard h)

  -- what an answer tells
  pub early_count : (n : ℕ) → Ok n ≡ early_answer F v y → (Ok tt ≡ early_grounds F v y) × (n ≡ out_count F v.state)
  unfolding early_answer
  early_count n e = told_count_lem (out_count F v.state) n (early_grounds F v y) e

  pub early_refused : (n place : ℕ) → refused_by n place ≡ early_answer F v y → refused_by n place ≡ early_grounds F v y
  unfolding early_answer
  early_refused n place e = told_refused (out_count F v.state) n place (early_grounds F v y) e

  -- what they leave
  module _ (e : (Ok tt) ≡ early_grounds F v y) where
    pub early_heard : v.state.heard < F.depth
    early_heard = ⊎_elim (λ l. l.0) (λ l. absurd (no_ground 16 0 _ (bad_heard l.0) e)) (decide v.state.heard F.depth)

    pub early_lent : Lent F v.state.phase (receiver_places F) v.store y
    early_lent = lent F v.state.phase (receiver_places F) v.store y (e ∙ sym (good_heard early_heard))

-- ---- the late grounds

module _ (F : Frame) (v : ReceiverState) (a : Arrival) where
  -- the late grounds as a function of the test of the data buffer
  buffered : Bool → Finding
  buffered t = ground? 17 (when t 0) else ground20 F a.profile v.phase a.symbol

  pub bad_buffer : short_buffer F v a.buffer ≡ true → refused_by 17 0 ≡ late_grounds F v a
  unfolding late_grounds buffered
  bad_buffer h = sym (ap buffered h)

  pub good_buffer : short_buffer F v a.buffer ≡ false → (o : Option ℕ) → o ≡ lowest (wrong_cell F a.profile v.phase a.symbol) F.width → ground? 20 o ≡ late_grounds F v a
  unfolding late_grounds buffered ground20
  good_buffer h o e = ap (ground? 20) e ∙ sym (ap buffered h)

  -- what they leave: room for the data cells once enough symbols were heard
  pub late_room : (Ok tt) ≡ late_grounds F v a → F.depth - 1 ≤ v.heard → out_count F v ≤ length a.buffer
  unfolding late_grounds short_buffer warming
  late_room e h =
      ltb-false (length a.buffer) (out_count F v)
      (ap (λ (t : Bool). not t && ltb (length a.buffer) (out_count F v)) (sym (le-ltb v.heard (F.depth - 1) h)) ∙ fine_test 17 _ (fine_first _ (ground20 F a.profile v.phase a.symbol) e))

-- ---- both

module _ (F : Frame) (v : Receiver) (a : Arrival) where
  pub in_stages : ground25 F.width a.profile ≡ Ok tt → (early_grounds F v a.symbol else late_grounds F v.state a) ≡ receive_grounds F v a
  unfolding early_grounds late_grounds receive_grounds ground17 receiver_ground17
  in_stages listed =
      let short = short_store (receiver_places F) v.store || not (eqb (length a.symbol) F.width) in
      let buffer = short_buffer F v.state a.buffer in
      let last = ground20 F a.profile v.state.phase a.symbol in
      else_assoc (receiver_ground16 F v.state) (ground? 17 (when short 0)) (ground? 17 (when buffer 0) else last)
      ∙ ap (λ (f : Finding). receiver_ground16 F v.state else f) (sym (else_assoc (ground? 17 (when short 0)) (ground? 17 (when buffer 0)) last) ∙ ap (λ (f : Finding). f else last) (parts 17 short buffer))
      ∙ sym (ap (λ (f : Finding). f else receiver_ground16 F v.state else receiver_ground17 F v a else last) listed)
