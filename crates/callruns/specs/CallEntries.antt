-- The calls, as a C host steps through them (requests 01 and 07): it lends an answer buffer, and takes the number that a call returns and the four numbers that the
-- call left in the buffer. Assumes nothing.
use Rattle.std.specs.Prelude.{ℕ, ◌≡◌, false, not, List, eqb, Ok}
use Rattle.counting.specs.Search.{pick}
use Rattle.rules.specs.declared.Device.{Device}
use Rattle.rules.specs.declared.Heard.TheVariants.{Warming, Data}
use Rattle.rules.specs.Refusals.{refusal, refused_step, CountAnswer, StartAnswer, ListenAnswer, SendAnswer, ReceiveAnswer, refused_by}
use Rattle.rules.specs.Frame.{Given, flush, symbol}
use Rattle.rules.specs.Steps.{Emitter, Sending, leaves, Starting, starts}
use Rattle.rules.specs.Receive.{Receiver, Arrival, Receiving, hears, Listening, listens}
use Rattle.rules.specs.Filling.{Filling, fills}
use Rattle.bytecells.specs.Octets.{cells_of, odd}
use Rattle.answerbytes.specs.declared.Told.{Told}
use Rattle.answerbytes.specs.Layout.{short}
use Rattle.headend.specs.Calls.{Said, StoreSaid, StepSaid, FillSaid, start_call, listen_call, emit_call, flush_call, receive_call, fill_call, unfill_call}
use Rattle.runs.specs.Run.{Entries}
use Rattle.callruns.specs.Host.{number_in}

-- what a call said: the number, and place, phase, heard and value from the buffer
abbrev pub told_in : Said → Told
told_in c = record {
  number = c.number;
  place = number_in c.answer 0;
  phase = number_in c.answer 4;
  heard = number_in c.answer 8;
  value = number_in c.answer 12;
}

-- how a host takes it: the number 0 is not refused, and of a receive call the value 0 is warming
abbrev pub start_of : Told → StartAnswer
start_of t = pick (eqb t.number 0) (Ok (record { phase = t.phase })) (refused_by t.number t.place)

abbrev pub listen_of : Told → ListenAnswer
listen_of t = pick (eqb t.number 0) (Ok (record { phase = t.phase; heard = t.heard })) (refused_by t.number t.place)

abbrev pub send_of : Told → SendAnswer
send_of t =
    pick (eqb t.number 0) (Ok (record { phase = t.phase }))
    (refused_step (refusal t.number t.place) (record { phase = t.phase }))

abbrev pub receive_of : Told → ReceiveAnswer
receive_of t =
    pick (eqb t.number 0)
    (pick (eqb t.value 0) (Ok (Warming (record { phase = t.phase; heard = t.heard })))
    (Ok (Data (record { phase = t.phase; heard = t.heard }) t.value)))
    (refused_step (refusal t.number t.place) (record { phase = t.phase; heard = t.heard }))

abbrev pub count_of : Told → CountAnswer
count_of t = pick (eqb t.number 0) (Ok t.value) (refused_by t.number t.place)

-- with what the call left
abbrev pub start_said : StoreSaid → Starting
start_said c = starts (start_of (told_in c.said)) c.store

abbrev pub listen_said : StoreSaid → Listening
listen_said c = listens (listen_of (told_in c.said)) c.store

abbrev pub send_said : StepSaid → Sending
send_said c = leaves (send_of (told_in c.said)) c.store c.cells

abbrev pub receive_said : StepSaid → Receiving
receive_said c = hears (receive_of (told_in c.said)) c.store c.cells

abbrev pub fill_said : FillSaid → Filling
fill_said c = fills (count_of (told_in c.said)) c.left

-- the device, a plan's bytes and the answer buffer
module _ (d : Device) (s : List ℕ) (a : List ℕ) where
  abbrev pub give_call : Emitter → List ℕ → List ℕ → Given → StepSaid
  give_call e w room flush = flush_call d s e.state.phase e.store room a
  give_call e w room (symbol ds) = emit_call d s w e.state.phase e.store ds room a

  abbrev pub hear_call : Receiver → Arrival → StepSaid
  hear_call v x = receive_call d s x.profile v.state.phase v.state.heard v.store x.symbol x.buffer a

  abbrev pub call_entries : Entries
  call_entries = record {
    start = λ j store. start_said (start_call d s j store a);
    send = λ e x. send_said (give_call e x.profile x.room x.given);
    listen = λ j store. listen_said (listen_call d s j store a);
    hear = λ v x. receive_said (hear_call v x);
    fill = λ w j stream start room. fill_said (fill_call d s w j stream start room a);
    unfill = λ w j ds start stream. fill_said (unfill_call d s w j ds start stream a);
    whole = λ b. not (odd b);
    read = cells_of;
  }

-- what a host reads does not hang on what its answer buffer held: one buffer may serve all calls of a run, or a new one each
abbrev pub AnyBuffer : Device → List ℕ → Type 0
AnyBuffer d s = (a a' : List ℕ) → short a ≡ false → short a' ≡ false → call_entries d s a ≡ call_entries d s a'
