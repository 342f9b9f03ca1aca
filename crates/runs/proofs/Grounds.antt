-- A run from a fresh start: the grounds of a step hang on the number of steps accepted before it and not on the store. Assumes nothing.
use Prim.Native.Nat.{ℕ, suc, ◌+◌, ◌-◌, ◌≤◌, ◌<◌, min}
use mathlib.Core.Path.{◌≡◌, sym, ap, subst, ◌∙◌}
use mathlib.Core.Bool.{not, ◌||◌}
use mathlib.Core.List.{List}
use native.Mathlib.Nat.{mod-lt, zero-add}
use native.Mathlib.Omega.{arith}
use lib.Dec.{ltb, eqb}
use lib.ListN.{length, length-map}
use lib.Seq.{length-sets}
use borrow.Author.Tests.{lt-leb, le-ltb, ltb-true, ltb-false}
use Rattle.counting.specs.Search.{when}
use Rattle.counting.proofs.Bools.{by_test}
use Rattle.rules.specs.Refusals.{Finding}
use Rattle.std.specs.Prelude.{Ok, is_ok}
use Rattle.rules.specs.declared.ReceiverState.{ReceiverState}
use Rattle.rules.specs.Grounds.{◌else◌, ground?}
use Rattle.rules.specs.Frame.{Frame, delay, input_cells, line_cells}
use Rattle.rules.specs.Loads.{ground25}
use Rattle.rules.specs.Places.{receiver_delay}
use Rattle.rules.specs.Store.{emitter_places, receiver_places, fresh_store, filler_store}
use Rattle.rules.specs.Steps.{Emitter, Send, Sending, ground16, short_store, ground17, profile_ground, given_grounds, send_grounds, next_state, sent_store, frame_step}
use Rattle.rules.specs.Receive.{Receiver, Arrival, Receiving, warming, short_buffer, receiver_ground16, receiver_ground17, ground20, receive_grounds, heard_state, heard_store, frame_receive}
use Rattle.frame.specs.Counted.{phase_of}
use Rattle.frame.proofs.Cells.{Sound}
use Rattle.runs.specs.Run.{emitter_left, sendings, sent, emitter_after, receiver_left, receivings, heard, receiver_after}
use Rattle.runs.proofs.Steps as sending
use Rattle.runs.proofs.Steps.{frame_entries, next, sent_fine, left_sent, fresh_emitter, FreshIn}
use Rattle.runs.proofs.Hears as receiving
use Rattle.runs.proofs.Hears.{next_heard, fine_received, left_fine, fresh_receiver, ListensIn}
use Rattle.runs.proofs.Numbered.{Numbered, numbered_fresh, numbered_next, NumberedSteps, found_numbered}

-- ---- an emitter

-- the grounds of a step n accepted steps after the starting phase j, in a store that is long enough
unfoldable pub send_grounds_at : Frame → ℕ → ℕ → Send → Finding
send_grounds_at F j n a =
    profile_ground F a.profile a.given
    else ground? 17 (when (not (eqb (length a.room) F.width)) 0)
    else given_grounds F a.profile (phase_of F j n) a.given

-- an emitter then
abbrev Carries : Frame → ℕ → ℕ → Emitter → Type 0
Carries F j n e = Numbered F (emitter_places F) j n e.state.phase e.store

module _ (F : Frame) (j : ℕ) (hj : j < F.phases) where
  carries_fresh : (lent : List ℕ) → emitter_places F ≤ length lent → Carries F j 0 (fresh_emitter F j lent)
  unfolding fresh_emitter fresh_store
  carries_fresh lent fits = numbered_fresh F (emitter_places F) j _ hj (rw length-sets fits)

  carries_on : (n : ℕ) (e : Emitter) (a : Send) → send_grounds F e a ≡ Ok tt → Carries F j n e → Carries F j (suc n) (emitter_left (frame_step F e a))
  unfolding next next_state sent_store
  carries_on n e a h t =
      subst (Carries F j (suc n)) (sym (left_sent F e a h))
      (numbered_next F (emitter_places F) j n e.state.phase (delay F) e.store (input_cells F e.state.phase a.given) t)

  carries_grounds : (n : ℕ) (e : Emitter) (a : Send) → Carries F j n e → send_grounds F e a ≡ send_grounds_at F j n a
  unfolding send_grounds ground16 ground17 short_store send_grounds_at
  carries_grounds n e a t =
      let hp : e.state.phase < F.phases = rw t.phase_is (mod-lt (j + n) (omega (arith, hj))) in
      λ i.
      profile_ground F a.profile a.given
      else ground? 16 (when (lt-leb F.phases e.state.phase hp i) 0)
      else ground? 17 (when (le-ltb (length e.store) (emitter_places F) t.fits i || not (eqb (length a.room) F.width)) 0)
      else given_grounds F a.profile (t.phase_is i) a.given

  emitter_steps : NumberedSteps Emitter Send Sending
  emitter_steps = record {
    step = frame_step F;
    ok = λ r. is_ok r.answer;
    left = emitter_left;
    found = send_grounds F;
    After = Carries F j;
    found_at = send_grounds_at F j;
    fine = λ e a. (sent_fine F e a).1;
    away = sending.away F;
    on = carries_on;
    same = carries_grounds;
  }

module _ (F : Frame) (j : ℕ) (e : Emitter) (fresh : FreshIn F j e) (steps : List Send) where
  carries : Carries F j 0 e
  carries = rw fresh.is_fresh (carries_fresh F j fresh.phase_in fresh.lent fresh.fits)

  -- the grounds of one more step
  pub send_grounds_lem : (a : Send) → send_grounds F (emitter_after (frame_entries F) e steps) a ≡ send_grounds_at F j (length (sent (frame_entries F) e steps)) a
  unfolding sent emitter_steps
  send_grounds_lem a =
      found_numbered (emitter_steps F j fresh.phase_in) 0 e steps a carries
      ∙ ap (λ (n : ℕ). send_grounds_at F j n a) (zero-add _ ∙ sym (length-map (sendings (frame_entries F) e steps) (λ x. x.1.symbol)))

-- ---- a receiver

-- the state n accepted steps after the starting phase j
abbrev pub receiver_state : Frame → ℕ → ℕ → ReceiverState
receiver_state F j n = record { phase = phase_of F j n; heard = min n (F.depth - 1) }

-- the grounds of a step then, in a store that is long enough
unfoldable pub receive_grounds_at : Frame → ℕ → ℕ → Arrival → Finding
receive_grounds_at F j n a =
    ground25 F.width a.profile
    else ground? 17 (when (not (eqb (length a.symbol) F.width) || short_buffer F (receiver_state F j n) a.buffer) 0)
    else ground20 F a.profile (phase_of F j n) a.symbol

-- a receiver then
record Tracks (F : Frame) (j n : ℕ) (v : Receiver) : Type 0 where
  numbered : Numbered F (receiver_places F) j n v.state.phase v.store
  heard : v.state.heard ≡ min n (F.depth - 1)

module _ (F : Frame) (pos : 0 < F.depth) (j : ℕ) (hj : j < F.phases) where
  tracks_fresh : (lent : List ℕ) → receiver_places F ≤ length lent → Tracks F j 0 (fresh_receiver F j lent)
  unfolding fresh_receiver filler_store
  tracks_fresh lent fits = record { numbered = numbered_fresh F (receiver_places F) j _ hj (rw length-sets fits); heard = omega arith }

  tracks_on : (n : ℕ) (v : Receiver) (a : Arrival) → receive_grounds F v a ≡ Ok tt → Tracks F j n v → Tracks F j (suc n) (receiver_left (frame_receive F v a))
  unfolding next_heard heard_state heard_store warming
  tracks_on n v a h t =
      rw (left_fine F v a h)
      (record {
        numbered = numbered_next F (receiver_places F) j n v.state.phase (receiver_delay F.depth) v.store (line_cells F a.symbol) t.numbered;
        heard =
            by_test (ltb v.state.heard (F.depth - 1))
            (λ q. let h : v.state.heard < F.depth - 1 = ltb-true v.state.heard (F.depth - 1) q in rw q (omega (arith, t.heard)))
            (λ q. let h : F.depth - 1 ≤ v.state.heard = ltb-false v.state.heard (F.depth - 1) q in rw q (omega (arith, t.heard)));
      })

  tracks_grounds : (n : ℕ) (v : Receiver) (a : Arrival) → Tracks F j n v → receive_grounds F v a ≡ receive_grounds_at F j n a
  unfolding receive_grounds receiver_ground16 receiver_ground17 short_store receive_grounds_at
  tracks_grounds n v a t =
      let c = t.numbered in
      let hp : v.state.phase < F.phases = rw c.phase_is (mod-lt (j + n) (omega (arith, hj))) in
      let hh : v.state.heard < F.depth = omega (arith, t.heard) in
      λ i.
      ground25 F.width a.profile
      else ground? 16 (when (lt-leb F.phases v.state.phase hp i || lt-leb F.depth v.state.heard hh i) 0)
      else ground? 17
      (when (le-ltb (length v.store) (receiver_places F) c.fits i || not (eqb (length a.symbol) F.width) || short_buffer F (record { phase = c.phase_is i; heard = t.heard i }) a.buffer) 0)
      else ground20 F a.profile (c.phase_is i) a.symbol

  receiver_steps : NumberedSteps Receiver Arrival Receiving
  receiver_steps = record {
    step = frame_receive F;
    ok = λ r. is_ok r.answer;
    left = receiver_left;
    found = receive_grounds F;
    After = Tracks F j;
    found_at = receive_grounds_at F j;
    fine = fine_received F;
    away = receiving.away F;
    on = tracks_on;
    same = tracks_grounds;
  }

module _ (F : Frame) (ok : Sound F) (j : ℕ) (v : Receiver) (fresh : ListensIn F j v) (arrivals : List Arrival) where
  tracks : Tracks F j 0 v
  tracks = rw fresh.is_fresh (tracks_fresh F ok.depth_pos j fresh.phase_in fresh.lent fresh.fits)

  -- the grounds of one more step
  pub receive_grounds_lem : (a : Arrival) → receive_grounds F (receiver_after (frame_entries F) v arrivals) a ≡ receive_grounds_at F j (length (heard (frame_entries F) v arrivals)) a
  unfolding heard receiver_steps
  receive_grounds_lem a =
      found_numbered (receiver_steps F ok.depth_pos j fresh.phase_in) 0 v arrivals a tracks
      ∙ ap (λ (n : ℕ). receive_grounds_at F j n a) (zero-add _ ∙ sym (length-map (receivings (frame_entries F) v arrivals) (λ x. x.0.symbol)))
