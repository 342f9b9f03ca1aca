-- A call returns 0 exactly if nothing refuses. Assumes nothing.
use Rattle.std.specs.Prelude.{is_ok}
use Prim.Native.Nat.{ℕ}
use mathlib.Core.Path.{◌≡◌, refl, sym, ◌∙◌}
use mathlib.Core.Logic.{◌↔◌}
use mathlib.Core.Bool.{Bool, true, false, ◌||◌, true≢false}
use mathlib.Core.List.{List, []}
use native.Mathlib.Omega.{arith}
use lib.Dec.{eqb}
use borrow.Author.Tests.{eqb-true, eq-eqb}
use Rattle.counting.specs.Search.{pick}
use Rattle.counting.proofs.Bools.{by_test}
use Rattle.rules.specs.declared.Device.{Device}
use Rattle.rules.specs.declared.EmitterState.{EmitterState}
use Rattle.rules.specs.declared.ReceiverState.{ReceiverState}
use Rattle.rules.specs.Grounds.{verdict}
use Rattle.rules.specs.Answers.{role_answer}
use Rattle.rules.specs.Frame.{flush, symbol}
use Rattle.rules.specs.Steps.{emit_step, flush_step, data_count_answer}
use Rattle.rules.specs.Receive.{receive_step}
use Rattle.bytecells.specs.Octets.{cells_of, odd}
use Rattle.bytecells.specs.ByteSteps.{start_bytes, listen_bytes, emit_bytes, flush_bytes, receive_bytes, fill_bytes, unfill_bytes}
use Rattle.bytelamp.specs.ByteLamp.{short_list, short_lights, pilots_bytes, lamp_bytes}
use Rattle.bytemodulate.specs.ByteSymbols.{modulate_bytes}
use Rattle.exclusion.specs.Trial.{trial_of_numbers}
use Rattle.reasons.specs.Reasons.{why_answer}
use Rattle.answerbytes.specs.declared.Told.{Told}
use Rattle.answerbytes.specs.Layout.{short, written}
use Rattle.answers.specs.Answer.{told_role, told_why, told_count, told_start, told_listen, told_send, told_receive}
use Rattle.headend.specs.Calls.{Said, says, StoreSaid, says_store, StepSaid, says_step, NumbersSaid, says_numbers, FillSaid, says_fill, fill_told, list_told, LampSaid, says_lamp, lamp_told, start_told, listen_told, send_told, receive_told, modulate_told, judge_call, try_call, role_call, why_call, count_call, start_call, listen_call, emit_call, flush_call, receive_call, fill_call, unfill_call, pilots_call, lamp_call, modulate_call}
use Rattle.callruns.specs.Host.{ZeroIsAccepted}
use Rattle.callruns.proofs.Numbers.{verdict_zero, trial_zero, role_zero, why_zero, count_zero, start_zero, listen_zero, send_zero, hear_zero, fill_zero, unfill_zero, pilots_zero, lamp_zero}
use Rattle.callruns.proofs.Modulated.{modulate_bytes_lem}

-- the number of x where b holds, 21, and else of y
zero : {T : Type 0} (number : T → ℕ) (b : Bool) (x y : T) (ok : Bool) → number x ≡ 21 → eqb (number y) 0 ≡ ok → (number (pick b x y) ≡ 0) ↔ ((b ≡ false) × (ok ≡ true))
zero number true x y ok hx hy = (λ e. absurd (omega (arith, hx, e)), λ p. absurd (true≢false p.0))
zero number false x y ok hx hy = (λ e. (refl, sym hy ∙ eq-eqb (number y) 0 e), λ p. eqb-true (number y) 0 (hy ∙ p.1))

module _ (d : Device) (s : List ℕ) where
  -- ---- the entries over bytes

  pub start_bytes_lem : (j : ℕ) (store : List ℕ) → eqb (told_start (start_bytes d s j store).answer).number 0 ≡ is_ok (start_bytes d s j store).answer
  unfolding start_bytes
  start_bytes_lem j store = by_test (odd store) (λ q. rw q refl) (λ q. rw q (start_zero d s j (cells_of store)))

  pub listen_bytes_lem : (j : ℕ) (store : List ℕ) → eqb (told_listen (listen_bytes d s j store).answer).number 0 ≡ is_ok (listen_bytes d s j store).answer
  unfolding listen_bytes
  listen_bytes_lem j store = by_test (odd store) (λ q. rw q refl) (λ q. rw q (listen_zero d s j (cells_of store)))

  pub emit_bytes_lem : (w : List ℕ) (e : EmitterState) (store ds room : List ℕ)
      → eqb (told_send (emit_bytes d s w e store ds room).answer).number 0 ≡ is_ok (emit_bytes d s w e store ds room).answer
  unfolding emit_bytes emit_step
  emit_bytes_lem w e store ds room =
      by_test (odd store || odd ds || odd room) (λ q. rw q refl)
      (λ q. rw q (send_zero d s (record { state = e; store = cells_of store }) (record { given = symbol (cells_of ds); profile = w; room = cells_of room })))

  pub flush_bytes_lem : (e : EmitterState) (store room : List ℕ) → eqb (told_send (flush_bytes d s e store room).answer).number 0 ≡ is_ok (flush_bytes d s e store room).answer
  unfolding flush_bytes flush_step
  flush_bytes_lem e store room =
      by_test (odd store || odd room) (λ q. rw q refl)
      (λ q. rw q (send_zero d s (record { state = e; store = cells_of store }) (record { given = flush; profile = []; room = cells_of room })))

  pub receive_bytes_lem : (w : List ℕ) (v : ReceiverState) (store y b : List ℕ)
      → eqb (told_receive (receive_bytes d s w v store y b).answer).number 0 ≡ is_ok (receive_bytes d s w v store y b).answer
  unfolding receive_bytes receive_step
  receive_bytes_lem w v store y b =
      by_test (odd store || odd y || odd b) (λ q. rw q refl)
      (λ q. rw q (hear_zero d s (record { state = v; store = cells_of store }) (record { profile = w; symbol = cells_of y; buffer = cells_of b })))

  pub fill_bytes_lem : (w : List ℕ) (j : ℕ) (stream : List ℕ) (start : ℕ) (room : List ℕ)
      → eqb (told_count (fill_bytes d s w j stream start room).answer).number 0 ≡ is_ok (fill_bytes d s w j stream start room).answer
  unfolding fill_bytes
  fill_bytes_lem w j stream start room = by_test (odd room) (λ q. rw q refl) (λ q. rw q (fill_zero d s w j stream start (cells_of room)))

  pub unfill_bytes_lem : (w : List ℕ) (j : ℕ) (ds : List ℕ) (start : ℕ) (stream : List ℕ)
      → eqb (told_count (unfill_bytes d s w j ds start stream).answer).number 0 ≡ is_ok (unfill_bytes d s w j ds start stream).answer
  unfolding unfill_bytes
  unfill_bytes_lem w j ds start stream = by_test (odd ds) (λ q. rw q refl) (λ q. rw q (unfill_zero d s w j (cells_of ds) start stream))

  pilots_bytes_lem : (l : List ℕ) → eqb (told_count (pilots_bytes d s l).answer).number 0 ≡ is_ok (pilots_bytes d s l).answer
  unfolding pilots_bytes
  pilots_bytes_lem l = by_test (short_list l) (λ q. rw q refl) (λ q. rw q (pilots_zero d s))

  pub lamp_bytes_lem : (y r l : List ℕ) → eqb (told_count (lamp_bytes d s y r l).answer).number 0 ≡ is_ok (lamp_bytes d s y r l).answer
  unfolding lamp_bytes
  lamp_bytes_lem y r l = by_test (odd y || short_lights l) (λ q. rw q refl) (λ q. rw q (lamp_zero d s r (cells_of y)))

  -- ---- the calls

  told_zero : (a : List ℕ) (t : Told) (ok : Bool) → eqb t.number 0 ≡ ok → ((pick (short a) (says 21 a) (says t.number (written a t))).number ≡ 0) ↔ ((short a ≡ false) × (ok ≡ true))
  told_zero a t ok h = zero (λ (x : Said). x.number) (short a) (says 21 a) (says t.number (written a t)) ok refl h

  pub zero_is_accepted : ZeroIsAccepted d s
  unfolding judge_call try_call role_call why_call count_call start_call listen_call emit_call flush_call receive_call fill_call unfill_call pilots_call lamp_call modulate_call
  zero_is_accepted = record {
    judged = λ a. told_zero a (told_count (verdict d s)) (is_ok (verdict d s)) (verdict_zero d s);
    tried = λ first last a. told_zero a (told_count (trial_of_numbers d s first last)) (is_ok (trial_of_numbers d s first last)) (trial_zero d s first last);
    role = λ k j a. told_zero a (told_role (role_answer d s k j)) (is_ok (role_answer d s k j)) (role_zero d s k j);
    reasoned = λ k j a. told_zero a (told_why (why_answer d s k j)) (is_ok (why_answer d s k j)) (why_zero d s k j);
    counted = λ j a. told_zero a (told_count (data_count_answer d s j)) (is_ok (data_count_answer d s j)) (count_zero d s j);
    started = λ j store a.
        zero (λ (x : StoreSaid). x.said.number) (short a) (says_store 21 store a) (start_told (start_bytes d s j store) a) (is_ok (start_bytes d s j store).answer) refl (start_bytes_lem j store);
    listens = λ j store a.
        zero (λ (x : StoreSaid). x.said.number) (short a) (says_store 21 store a) (listen_told (listen_bytes d s j store) a) (is_ok (listen_bytes d s j store).answer) refl (listen_bytes_lem j store);
    emitted = λ w e store ds room a.
        zero (λ (x : StepSaid). x.said.number) (short a) (says_step 21 store room a) (send_told (emit_bytes d s w e store ds room) a) (is_ok (emit_bytes d s w e store ds room).answer) refl (emit_bytes_lem w e store ds room);
    flushed = λ e store room a.
        zero (λ (x : StepSaid). x.said.number) (short a) (says_step 21 store room a) (send_told (flush_bytes d s e store room) a) (is_ok (flush_bytes d s e store room).answer) refl (flush_bytes_lem e store room);
    received = λ w v store y b a.
        zero (λ (x : StepSaid). x.said.number) (short a) (says_step 21 store b a) (receive_told (receive_bytes d s w v store y b) a) (is_ok (receive_bytes d s w v store y b).answer) refl (receive_bytes_lem w v store y b);
    filled = λ w j stream start room a.
        zero (λ (x : FillSaid). x.said.number) (short a) (says_fill 21 room a) (fill_told (fill_bytes d s w j stream start room) a) (is_ok (fill_bytes d s w j stream start room).answer) refl (fill_bytes_lem w j stream start room);
    unfilled = λ w j ds start stream a.
        zero (λ (x : FillSaid). x.said.number) (short a) (says_fill 21 stream a) (fill_told (unfill_bytes d s w j ds start stream) a) (is_ok (unfill_bytes d s w j ds start stream).answer) refl (unfill_bytes_lem w j ds start stream);
    listed = λ l a.
        zero (λ (x : FillSaid). x.said.number) (short a) (says_fill 21 l a) (list_told (pilots_bytes d s l) a) (is_ok (pilots_bytes d s l).answer) refl (pilots_bytes_lem l);
    heard = λ y r l a.
        zero (λ (x : LampSaid). x.said.number) (short a) (says_lamp 21 r l a) (lamp_told (lamp_bytes d s y r l) a) (is_ok (lamp_bytes d s y r l).answer) refl (lamp_bytes_lem y r l);
    modulated = λ y loads minus l a.
        zero (λ (x : NumbersSaid). x.said.number) (short a) (says_numbers 21 l a) (modulate_told (modulate_bytes y loads minus d l) a) (is_ok (modulate_bytes y loads minus d l).answer) refl (modulate_bytes_lem y loads minus d l);
  }
