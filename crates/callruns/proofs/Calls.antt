-- In any answer buffer of 16 bytes or more, a host's calls are the entries over bytes; so demand 3 and the other claims hold of runs of calls. Assumes nothing.
use Prim.Native.Nat.{ℕ}
use mathlib.Core.Path.{◌≡◌, refl, sym, ap, ◌∙◌, subst}
use mathlib.Core.Bool.{Bool, true, false, not}
use mathlib.Core.List.{List}
use lib.Dec.{eqb}
use Rattle.counting.specs.Search.{pick}
use Rattle.rules.specs.declared.Device.{Device}
use Rattle.rules.specs.declared.Heard.TheVariants.{Warming, Data}
use Rattle.rules.specs.Refusals.{CountAnswer, StartAnswer, ListenAnswer, SendAnswer, ReceiveAnswer}
use Rattle.std.specs.Prelude.{Ok, Err, is_ok}
use Rattle.rules.specs.Device.{khz50}
use Rattle.rules.specs.Plan.{plan_of}
use Rattle.rules.specs.Grounds.{verdict}
use Rattle.rules.specs.Frame.{frame_of, Given, flush, symbol}
use Rattle.rules.specs.Steps.{Emitter, Sending, leaves, Starting, starts}
use Rattle.rules.specs.Receive.{Receiver, Arrival, Receiving, hears, Listening, listens}
use Rattle.rules.specs.Filling.{Filling, fills}
use Rattle.facts.specs.Roomy.{Roomy}
use Rattle.facts.proofs.Sizes.{khz50_roomy}
use Rattle.bytecells.specs.Octets.{cells_of, odd}
use Rattle.bytecells.specs.ByteSteps.{start_bytes, listen_bytes, emit_bytes, flush_bytes, receive_bytes, fill_bytes, unfill_bytes}
use Rattle.answerbytes.specs.declared.Told.{Told}
use Rattle.answerbytes.specs.Layout.{short}
use Rattle.answers.specs.Answer.{told_count, told_start, told_listen, told_send, told_receive}
use Rattle.runs.specs.Demand3.{Demand3}
use Rattle.runs.specs.Claims.{PlanClaims}
use Rattle.byteruns.specs.ByteEntries.{send_given, byte_entries}
use Rattle.byteruns.proofs.Claims.{accepted_demand3_bytes, accepted_claims_bytes}
use Rattle.headend.specs.Calls.{says_store, says_step, says_fill, start_told, listen_told, send_told, receive_told, fill_told, start_call, listen_call, emit_call, flush_call, receive_call, fill_call, unfill_call}
use Rattle.callruns.specs.Host.{is_warming}
use Rattle.callruns.specs.CallEntries.{start_of, listen_of, send_of, receive_of, count_of, start_said, listen_said, send_said, receive_said, fill_said, give_call, hear_call, call_entries, AnyBuffer}
use Rattle.callruns.proofs.Zeros.{start_bytes_lem, listen_bytes_lem, emit_bytes_lem, flush_bytes_lem, receive_bytes_lem, fill_bytes_lem, unfill_bytes_lem}
use Rattle.callruns.proofs.Warming.{long, told_back, Tells, bytes_tell}

-- ---- an answer laid out and taken again

start_back : (r : StartAnswer) → eqb (told_start r).number 0 ≡ is_ok r → start_of (told_start r) ≡ r
start_back (Ok e) h = refl
start_back (Err r) h = ap (λ (b : Bool). pick b (Ok (record { phase = 0 })) (Err r)) h

listen_back : (r : ListenAnswer) → eqb (told_listen r).number 0 ≡ is_ok r → listen_of (told_listen r) ≡ r
listen_back (Ok v) h = refl
listen_back (Err r) h = ap (λ (b : Bool). pick b (Ok (record { phase = 0; heard = 0 })) (Err r)) h

send_back : (r : SendAnswer) → eqb (told_send r).number 0 ≡ is_ok r → send_of (told_send r) ≡ r
send_back (Ok e) h = refl
send_back (Err r) h = ap (λ (b : Bool). pick b (Ok r.state) (Err r)) h

receive_back : (r : ReceiveAnswer) → eqb (told_receive r).number 0 ≡ is_ok r → (is_ok r ≡ true → eqb (told_receive r).value 0 ≡ is_warming r) → receive_of (told_receive r) ≡ r
receive_back (Ok (Warming v)) h w = refl
receive_back (Ok (Data v n)) h w = ap (λ (b : Bool). pick b (Ok (Warming v)) (Ok (Data v n))) (w refl)
receive_back (Err r) h w = ap (λ (b : Bool). pick b (pick true (Ok (Warming r.state)) (Ok (Data r.state 0))) (Err r)) h

pub count_back : (r : CountAnswer) → eqb (told_count r).number 0 ≡ is_ok r → count_of (told_count r) ≡ r
count_back (Ok n) h = refl
count_back (Err r) h = ap (λ (b : Bool). pick b (Ok 0) (Err r)) h

-- ---- the calls

module _ (d : Device) (s : List ℕ) (roomy : Roomy d) (a : List ℕ) (room_for : short a ≡ false) where
  start_call_lem : (j : ℕ) (store : List ℕ) → start_said (start_call d s j store a) ≡ start_bytes d s j store
  unfolding start_call
  start_call_lem j store =
      let r : Starting = start_bytes d s j store in
      ap (λ (b : Bool). start_said (pick b (says_store 21 store a) (start_told r a))) room_for
      ∙ ap (λ (t : Told). starts (start_of t) r.store) (told_back a (told_start r.answer) (long a room_for))
      ∙ ap (λ (x : StartAnswer). starts x r.store) (start_back r.answer (start_bytes_lem d s j store))

  listen_call_lem : (j : ℕ) (store : List ℕ) → listen_said (listen_call d s j store a) ≡ listen_bytes d s j store
  unfolding listen_call
  listen_call_lem j store =
      let r : Listening = listen_bytes d s j store in
      ap (λ (b : Bool). listen_said (pick b (says_store 21 store a) (listen_told r a))) room_for
      ∙ ap (λ (t : Told). listens (listen_of t) r.store) (told_back a (told_listen r.answer) (long a room_for))
      ∙ ap (λ (x : ListenAnswer). listens x r.store) (listen_back r.answer (listen_bytes_lem d s j store))

  send_told_lem : (r : Sending) (st y : List ℕ) → eqb (told_send r.answer).number 0 ≡ is_ok r.answer → send_said (pick (short a) (says_step 21 st y a) (send_told r a)) ≡ r
  send_told_lem r st y h =
      ap (λ (b : Bool). send_said (pick b (says_step 21 st y a) (send_told r a))) room_for
      ∙ ap (λ (t : Told). leaves (send_of t) r.store r.symbol) (told_back a (told_send r.answer) (long a room_for))
      ∙ ap (λ (x : SendAnswer). leaves x r.store r.symbol) (send_back r.answer h)

  send_call : (e : Emitter) (w y : List ℕ) (g : Given) → send_said (give_call d s a e w y g) ≡ send_given d s e w y g
  unfolding emit_call flush_call
  send_call e w y flush = send_told_lem (flush_bytes d s e.state e.store y) e.store y (flush_bytes_lem d s e.state e.store y)
  send_call e w y (symbol ds) = send_told_lem (emit_bytes d s w e.state e.store ds y) e.store y (emit_bytes_lem d s w e.state e.store ds y)

  hear_call_lem : (v : Receiver) (x : Arrival) → receive_said (hear_call d s a v x) ≡ receive_bytes d s x.profile v.state v.store x.symbol x.buffer
  unfolding receive_call Tells
  hear_call_lem v x =
      let r : Receiving = receive_bytes d s x.profile v.state v.store x.symbol x.buffer in
      ap (λ (b : Bool). receive_said (pick b (says_step 21 v.store x.buffer a) (receive_told r a))) room_for
      ∙ ap (λ (t : Told). hears (receive_of t) r.store r.buffer) (told_back a (told_receive r.answer) (long a room_for))
      ∙ ap (λ (z : ReceiveAnswer). hears z r.store r.buffer)
      (receive_back r.answer (receive_bytes_lem d s x.profile v.state v.store x.symbol x.buffer) (bytes_tell d s roomy x.profile v.state v.store x.symbol x.buffer))

  fill_told_lem : (r : Filling) (l : List ℕ) → eqb (told_count r.answer).number 0 ≡ is_ok r.answer → fill_said (pick (short a) (says_fill 21 l a) (fill_told r a)) ≡ r
  fill_told_lem r l h =
      ap (λ (b : Bool). fill_said (pick b (says_fill 21 l a) (fill_told r a))) room_for
      ∙ ap (λ (t : Told). fills (count_of t) r.left) (told_back a (told_count r.answer) (long a room_for))
      ∙ ap (λ (x : CountAnswer). fills x r.left) (count_back r.answer h)

  fill_call_lem : (w : List ℕ) (j : ℕ) (stream : List ℕ) (start : ℕ) (room : List ℕ) → fill_said (fill_call d s w j stream start room a) ≡ fill_bytes d s w j stream start room
  unfolding fill_call
  fill_call_lem w j stream start room = fill_told_lem (fill_bytes d s w j stream start room) room (fill_bytes_lem d s w j stream start room)

  unfill_call_lem : (w : List ℕ) (j : ℕ) (ds : List ℕ) (start : ℕ) (stream : List ℕ) → fill_said (unfill_call d s w j ds start stream a) ≡ unfill_bytes d s w j ds start stream
  unfolding unfill_call
  unfill_call_lem w j ds start stream = fill_told_lem (unfill_bytes d s w j ds start stream) stream (unfill_bytes_lem d s w j ds start stream)

  -- a host's calls are the entries over bytes
  pub calls_are : call_entries d s a ≡ byte_entries d s
  calls_are = λ i. record {
    start = λ j store. start_call_lem j store i;
    send = λ e x. send_call e x.profile x.room x.given i;
    listen = λ j store. listen_call_lem j store i;
    hear = λ v x. hear_call_lem v x i;
    fill = λ w j stream start room. fill_call_lem w j stream start room i;
    unfill = λ w j ds start stream. unfill_call_lem w j ds start stream i;
    whole = λ b. not (odd b);
    read = cells_of;
  }

pub any_buffer : (d : Device) (s : List ℕ) → Roomy d → AnyBuffer d s
any_buffer d s roomy a a' room_for room-for' = calls_are d s roomy a room_for ∙ sym (calls_are d s roomy a' room-for')

-- every plan that the 50 kHz device accepts
module _ (s : List ℕ) (n : ℕ) (e : verdict khz50 s ≡ Ok n) (a : List ℕ) (room_for : short a ≡ false) where
  pub accepted_demand3_calls : Demand3 (frame_of khz50 (plan_of s)) (call_entries khz50 s a)
  accepted_demand3_calls = subst (Demand3 (frame_of khz50 (plan_of s))) (sym (calls_are khz50 s khz50_roomy a room_for)) (accepted_demand3_bytes s n e)

  pub accepted_claims_calls : PlanClaims (frame_of khz50 (plan_of s)) (call_entries khz50 s a)
  accepted_claims_calls = subst (PlanClaims (frame_of khz50 (plan_of s))) (sym (calls_are khz50 s khz50_roomy a room_for)) (accepted_claims_bytes s n e)
