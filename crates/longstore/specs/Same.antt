-- From a fresh start the emitted symbols and the data handed out are the same as from the long store (document 02, request 03). Runs with the short
-- store are those of crate runs, runs with the long store those of specs/Run. Statements only. Assumes nothing.
use Rattle.std.specs.Prelude.{ℕ, ◌*◌, ◌≤◌, ◌<◌, ◌≡◌, true, List, length, is_ok}
use Rattle.rules.specs.declared.Device.{Device}
use Rattle.rules.specs.Refusals.{SendAnswer, ReceiveAnswer}
use Rattle.rules.specs.Plan.{plan_of}
use Rattle.rules.specs.Frame.{Frame, frame_of, cells}
use Rattle.rules.specs.Steps.{Emitter, Send}
use Rattle.rules.specs.Receive.{Receiver, Arrival}
use Rattle.runs.specs.Results.{results, send_result, receive_result}
use Rattle.runs.specs.Run.{Entries, cell_entries, emitter_left, input, sent, Fresh, receiver_left, heard, outcomes, FreshReceiver}
use Rattle.longstore.specs.Steps as long
use Rattle.longstore.specs.Receive as long-receive
use Rattle.longstore.specs.Run as long-run
use Rattle.longstore.specs.Run.{LongEntries, long_entries, send_without_row, receive_without_row}

-- ---- the results of steps with the long store, those of specs/Results of crate runs

-- of an emit or flush step: the answer without the row, and the lent symbol as the step leaves it
abbrev pub long_send_result : long.Sending → SendAnswer × List ℕ
long_send_result r = (send_without_row r.answer, r.symbol)

-- of a receive step: the answer without the row, and the data buffer as the step leaves it
abbrev pub long_receive_result : long-receive.Receiving → ReceiveAnswer × List ℕ
long_receive_result r = (receive_without_row r.answer, r.buffer)

-- ---- the claim

-- two emitters, e with the short store and l with the long store
pub record SameSent (E : Entries) (L : LongEntries) (e : Emitter) (l : long.Emitter) : Type 0 where
  -- each step has the same result: sent with the same next phase and symbol, or refused with the same ground and place
  pub each_step : (steps : List Send) → results E.send emitter_left send_result e steps ≡ results L.send long-run.emitter_left long_send_result l steps
  -- so the same steps have the same input
  pub inputs : (steps : List Send) → input E e steps ≡ long-run.input L l steps
  -- and runs with the same input, whatever their steps, send the same symbols
  pub symbols : (steps steps' : List Send) → input E e steps ≡ long-run.input L l steps' → sent E e steps ≡ long-run.sent L l steps'

-- two receivers, v with the short store and l with the long store
pub record SameReceived (E : Entries) (L : LongEntries) (v : Receiver) (l : long-receive.Receiver) : Type 0 where
  -- each step has the same result: warming, data with the same count and cells, or refused with the same ground and place
  pub each_step : (steps : List Arrival) → results E.hear receiver_left receive_result v steps ≡ results L.hear long-run.receiver_left long_receive_result l steps
  -- so the same symbols are accepted
  pub accepted : (steps : List Arrival) → heard E v steps ≡ long-run.heard L l steps
  -- and runs that accept the same symbols, whatever their steps, hand out the same data
  pub handed_out : (steps steps' : List Arrival) → heard E v steps ≡ long-run.heard L l steps' → outcomes E v steps ≡ long-run.outcomes L l steps'

-- the entries E with the short store, and L with the long store, under the plan whose frame is F
pub record Same (F : Frame) (E : Entries) (L : LongEntries) : Type 0 where
  -- from fresh starts at the same phase
  pub emitted : (j : ℕ) (e : Emitter) (l : long.Emitter) → Fresh E j e → long-run.Fresh L j l → SameSent E L e l
  pub received : (j : ℕ) (v : Receiver) (l : long-receive.Receiver) → FreshReceiver E j v → long-run.FreshReceiver L j l → SameReceived E L v l
  -- and no fresh start with the long store, at a phase below 128 and in at least M times N_I cells, is refused
  pub started : (j : ℕ) (lent : List ℕ) → j < F.phases → F.depth * cells F ≤ length lent → is_ok (L.start j lent).answer ≡ true
  pub listens : (j : ℕ) (lent : List ℕ) → j < F.phases → F.depth * cells F ≤ length lent → is_ok (L.listen j lent).answer ≡ true

-- the claim, for the device d and a plan's bytes s
abbrev pub SameAsLong : Device → List ℕ → Type 0
SameAsLong d s = Same (frame_of d (plan_of s)) (cell_entries d s) (long_entries d s)
