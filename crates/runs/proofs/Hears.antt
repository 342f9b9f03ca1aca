-- A receive step under an accepted plan: it is accepted exactly if no ground refuses it, and else changes nothing; and what a fresh start leaves. Assumes nothing.
use Prim.Native.Nat.{ℕ, ◌≤◌, ◌<◌}
use mathlib.Core.Path.{◌≡◌, refl, sym, ap, ◌∙◌}
use mathlib.Core.Bool.{Bool, true, false, not, ◌&&◌, ◌||◌}
use mathlib.Core.List.{List, ◌∷◌}
use lib.Dec.{ltb, eqb}
use lib.ListN.{length, length-map}
use borrow.Author.Tests.{ltb-false}
use Rattle.counting.specs.Search.{pick}
use Rattle.counting.proofs.Bools.{neither, by_test}
use Rattle.counting.proofs.Lists.{take-sets}
use Rattle.rules.specs.Refusals.{refusal, Finding, refused_by}
use Rattle.std.specs.Prelude.{Ok, Err, is_ok}
use Rattle.rules.specs.declared.ReceiverState.{ReceiverState}
use Rattle.rules.specs.Frame.{Frame}
use Rattle.rules.specs.Store.{receiver_places, filler_store}
use Rattle.rules.specs.Steps.{short_store}
use Rattle.rules.specs.Receive as receive
use Rattle.rules.specs.Receive.{Receiver, Arrival, Receiving, Listening, listens, turned_away, out_count, short_buffer, receiver_ground16, receiver_ground17, ground20, receive_grounds, heard_state, heard_store, received, frame_receive, frame_listen}
use Rattle.rules.proofs.Findings.{both_fine, when_fine}
use Rattle.rules.specs.Loads.{ground25}
use Rattle.frame.proofs.Cells.{length_data}
use Rattle.runs.specs.Run.{accepted_steps, receiver_left, Outcome, warming, handed, outcome_of, receivings, heard, outcomes, FreshReceiver}
use Rattle.runs.proofs.Steps.{frame_entries, not_refused}

-- ---- one step

-- the receiver after an accepted step that was given the symbol y
unfoldable pub next_heard : Frame → Receiver → List ℕ → Receiver
next_heard F v y = record { state = heard_state F v.state; store = heard_store F v y }

-- the outcome of an accepted step that hands out xs unless it is warming
unfoldable pub outcome_with : Frame → ReceiverState → List ℕ → Outcome
outcome_with F v xs = pick (receive.warming F v) warming (handed (out_count F v) xs)

module _ (F : Frame) (v : Receiver) (a : Arrival) where
  after : Finding → Receiving
  after f = elim f [ Ok _ ↦ received F v a | Err r ↦ turned_away v a r ]

  step_fine : receive_grounds F v a ≡ Ok tt → frame_receive F v a ≡ received F v a
  unfolding frame_receive after
  step_fine h = ap after h

  step_ground : (n place : ℕ) → receive_grounds F v a ≡ refused_by n place → frame_receive F v a ≡ turned_away v a (refusal n place)
  unfolding frame_receive after
  step_ground n place h = ap after h

  -- a step that no ground refuses is accepted
  pub fine_received : receive_grounds F v a ≡ Ok tt → is_ok (frame_receive F v a).answer ≡ true
  unfolding received
  fine_received h =
      ap (λ (r : Receiving). is_ok r.answer) (step_fine h)
      ∙ by_test (receive.warming F v.state) (λ q. rw q refl) (λ q. rw q refl)

  -- unless it is warming, its data buffer is long enough
  buffer_fits : receive_grounds F v a ≡ Ok tt → receive.warming F v.state ≡ false → out_count F v.state ≤ length a.buffer
  unfolding receive_grounds receiver_ground17 short_buffer
  buffer_fits h q =
      let rest = (both_fine (receiver_ground16 F v.state) _ (both_fine (ground25 F.width a.profile) _ h).1).1 in
      let short = when_fine 17 0 _ (both_fine _ (ground20 F a.profile v.state.phase a.symbol) rest).0 in
      ltb-false _ _ (sym (ap (λ (b : Bool). not b && ltb (length a.buffer) (out_count F v.state)) q) ∙ (neither (short_store (receiver_places F) v.store || not (eqb (length a.symbol) F.width)) _ short).1)

  outcome_handed : receive_grounds F v a ≡ Ok tt → outcome_of (received F v a).answer (received F v a).buffer ≡ outcome_with F v.state (receive.handed F v a.symbol)
  unfolding received outcome_with receive.handed
  outcome_handed h =
      by_test (receive.warming F v.state) (λ q. rw q refl)
      (λ q. rw q (ap (handed (out_count F v.state)) (take-sets a.buffer (receive.handed F v a.symbol) (out_count F v.state) (length_data F _ _) (buffer_fits h q))))

  pub left_fine : receive_grounds F v a ≡ Ok tt → receiver_left (frame_receive F v a) ≡ next_heard F v a.symbol
  unfolding received next_heard
  left_fine h = ap receiver_left (step_fine h) ∙ by_test (receive.warming F v.state) (λ q. rw q refl) (λ q. rw q refl)

  pub away : (n place : ℕ) → receive_grounds F v a ≡ refused_by n place → (is_ok (frame_receive F v a).answer ≡ false) × (receiver_left (frame_receive F v a) ≡ v)
  away n place h = (ap (λ (r : Receiving). is_ok r.answer) (step_ground n place h), ap receiver_left (step_ground n place h))

  module _ (rest : List Arrival) where
    pub heard_fine : receive_grounds F v a ≡ Ok tt → heard (frame_entries F) v (a ∷ rest) ≡ a.symbol ∷ heard (frame_entries F) (next_heard F v a.symbol) rest
    unfolding heard accepted_steps received next_heard
    heard_fine h = by_test (receive.warming F v.state) (λ q. rw (step_fine h, q) refl) (λ q. rw (step_fine h, q) refl)

    pub heard_ground : (n place : ℕ) → receive_grounds F v a ≡ refused_by n place → heard (frame_entries F) v (a ∷ rest) ≡ heard (frame_entries F) v rest
    unfolding heard accepted_steps
    heard_ground n place h = rw (step_ground n place h) refl

    pub outcome_fine : receive_grounds F v a ≡ Ok tt
        → outcomes (frame_entries F) v (a ∷ rest) ≡ outcome_with F v.state (receive.handed F v a.symbol) ∷ outcomes (frame_entries F) (next_heard F v a.symbol) rest
    unfolding outcomes accepted_steps received next_heard
    outcome_fine h = rw (← outcome_handed h) (by_test (receive.warming F v.state) (λ q. rw (step_fine h, q) refl) (λ q. rw (step_fine h, q) refl))

    pub outcome_ground : (n place : ℕ) → receive_grounds F v a ≡ refused_by n place → outcomes (frame_entries F) v (a ∷ rest) ≡ outcomes (frame_entries F) v rest
    unfolding outcomes accepted_steps
    outcome_ground n place h = rw (step_ground n place h) refl

-- each accepted step has an outcome
pub length_outcomes : (F : Frame) (v : Receiver) (steps : List Arrival) → length (outcomes (frame_entries F) v steps) ≡ length (heard (frame_entries F) v steps)
unfolding outcomes heard
length_outcomes F v steps = length-map (receivings (frame_entries F) v steps) _ ∙ sym (length-map (receivings (frame_entries F) v steps) (λ x. x.0.symbol))

-- ---- a fresh start

-- the receiver that a fresh start at phase j leaves in the lent store
unfoldable pub fresh_receiver : Frame → ℕ → List ℕ → Receiver
fresh_receiver F j lent = record { state = record { phase = j; heard = 0 }; store = filler_store F lent }

-- v is one, in a store that is long enough
pub record ListensIn (F : Frame) (j : ℕ) (v : Receiver) : Type 0 where
  pub lent : List ℕ
  pub phase_in : j < F.phases
  pub fits : receiver_places F ≤ length lent
  pub is_fresh : v ≡ fresh_receiver F j lent

-- the receiver that an answer and a store make, u where the answer refuses
receiver_in : Receiver → Listening → Receiver
receiver_in u x = elim x.answer [ Ok e ↦ record { state = e; store = x.store } | Err _ ↦ u ]

started : (F : Frame) (j : ℕ) (lent : List ℕ) (v : Receiver) → frame_listen F j lent ≡ listens (Ok v.state) v.store → ListensIn F j v
unfolding frame_listen receiver_in fresh_receiver
started F j lent v s =
    let r = not_refused F (receiver_places F) j lent (listens (Ok (record { phase = j; heard = 0 })) (filler_store F lent)) (λ n place. listens (refused_by n place) lent)
    (λ (x : Listening). is_ok x.answer) (listens (Ok v.state) v.store) s refl (λ n place. refl) in
    record { lent = lent; phase_in = r.0.phase_in; fits = r.0.fits; is_fresh = sym (ap (receiver_in v) r.1) }

pub listens_in : (F : Frame) (j : ℕ) (v : Receiver) → FreshReceiver (frame_entries F) j v → ListensIn F j v
listens_in F j v f = started F j f.lent v f.start
