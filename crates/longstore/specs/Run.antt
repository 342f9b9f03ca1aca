-- Runs of an emitter and of a receiver with the long store: those of crate runs (specs/Run) over its steps (document 01, "Cells and interleaving"). Assumes nothing.
use Rattle.std.specs.Prelude.{ℕ, ◌≡◌, Bool, true, false, List, map, Result, Ok, Err, is_ok}
use Rattle.rules.specs.declared.Device.{Device}
use Rattle.rules.specs.declared.EmitterState as short-emitter
use Rattle.rules.specs.declared.ReceiverState as short-receiver
use Rattle.rules.specs.declared.RefusedStep.{RefusedStep}
use Rattle.rules.specs.declared.Heard.{Heard}
use Rattle.rules.specs.declared.Heard.TheVariants.{Warming, Data}
use Rattle.rules.specs.Refusals.{SendAnswer, ReceiveAnswer, refused_step}
use Rattle.rules.specs.Frame.{Given}
use Rattle.rules.specs.Steps.{Send}
use Rattle.rules.specs.Receive.{Arrival}
use Rattle.runs.specs.Run.{accepted_steps, state_of, state_heard, Outcome, outcome_of}
use Rattle.longstore.specs.declared.EmitterState.{EmitterState}
use Rattle.longstore.specs.declared.ReceiverState.{ReceiverState}
use Rattle.longstore.specs.Steps.{Emitter, Sending, Starting, starts, start_step, send_step}
use Rattle.longstore.specs.Receive.{Receiver, Receiving, Listening, listens, listen_step, hear_step}

-- the entries with the long store that a caller uses, as functions
pub record LongEntries : Type 0 where
  pub start : ℕ → List ℕ → Starting
  pub send : Emitter → Send → Sending
  pub listen : ℕ → List ℕ → Listening
  pub hear : Receiver → Arrival → Receiving

-- for the device d and a plan's bytes s
abbrev pub long_entries : Device → List ℕ → LongEntries
long_entries d s = record { start = start_step d s; send = send_step d s; listen = listen_step d s; hear = hear_step d s }

-- ---- states and answers without the row

abbrev pub emitter_without_row : EmitterState → short-emitter.EmitterState
emitter_without_row e = record { phase = e.phase }

abbrev pub receiver_without_row : ReceiverState → short-receiver.ReceiverState
receiver_without_row v = record { phase = v.phase; heard = v.heard }

abbrev pub send_without_row : Result EmitterState (RefusedStep EmitterState) → SendAnswer
send_without_row (Ok e) = Ok (emitter_without_row e)
send_without_row (Err r) = refused_step r.refusal (emitter_without_row r.state)

abbrev pub receive_without_row : Result (Heard ReceiverState) (RefusedStep ReceiverState) → ReceiveAnswer
receive_without_row (Ok (Warming v)) = Ok (Warming (receiver_without_row v))
receive_without_row (Ok (Data v n)) = Ok (Data (receiver_without_row v) n)
receive_without_row (Err r) = refused_step r.refusal (receiver_without_row r.state)

-- ---- an emitter's run

-- the next step is given the state that this one returned and the store as it left it
abbrev pub emitter_left : Sending → Emitter
emitter_left r = record { state = state_of r.answer; store = r.store }

module _ (L : LongEntries) (e : Emitter) (steps : List Send) where
  abbrev pub sendings : List (Send × Sending)
  sendings = accepted_steps L.send (λ r. is_ok (send_without_row r.answer)) emitter_left e steps

  -- the run's input: what its accepted steps were given
  unfoldable pub input : List Given
  input = map (λ x. x.0.given) sendings

  -- the symbols sent: each accepted step sends one
  unfoldable pub sent : List (List ℕ)
  sent = map (λ x. x.1.symbol) sendings

-- e is what a fresh start at phase j left, in some lent store
pub record Fresh (L : LongEntries) (j : ℕ) (e : Emitter) : Type 0 where
  pub lent : List ℕ
  pub start : L.start j lent ≡ starts (Ok e.state) e.store

-- ---- a receiver's run

abbrev pub receiver_left : Receiving → Receiver
receiver_left r = record { state = state_heard r.answer; store = r.store }

module _ (L : LongEntries) (v : Receiver) (steps : List Arrival) where
  abbrev pub receivings : List (Arrival × Receiving)
  receivings = accepted_steps L.hear (λ r. is_ok (receive_without_row r.answer)) receiver_left v steps

  -- the symbols that the accepted steps were given
  unfoldable pub heard : List (List ℕ)
  heard = map (λ x. x.0.symbol) receivings

  -- their outcomes
  unfoldable pub outcomes : List Outcome
  outcomes = map (λ x. outcome_of (receive_without_row x.1.answer) x.1.buffer) receivings

-- v is what a receiver's fresh start at phase j left, in some lent store
pub record FreshReceiver (L : LongEntries) (j : ℕ) (v : Receiver) : Type 0 where
  pub lent : List ℕ
  pub start : L.listen j lent ≡ listens (Ok v.state) v.store
