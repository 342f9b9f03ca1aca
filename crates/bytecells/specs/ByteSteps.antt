-- What the entries over two-byte cells answer and leave (requests 01 and 07): ground 21, tried before 1, and else what the entry over the cells of
-- the bytes answers and leaves, its cells as bytes. Assumes nothing.
use Rattle.std.specs.Prelude.{ℕ, ◌||◌, List}
use Rattle.counting.specs.Search.{pick}
use Rattle.rules.specs.declared.Device.{Device}
use Rattle.rules.specs.declared.EmitterState.{EmitterState}
use Rattle.rules.specs.declared.ReceiverState.{ReceiverState}
use Rattle.rules.specs.Refusals.{refusal, refused_by, refused_step}
use Rattle.rules.specs.Steps.{Starting, starts, start_step, Sending, leaves, emit_step, flush_step}
use Rattle.rules.specs.Receive.{Listening, listens, listen_step, Receiving, hears, receive_step}
use Rattle.rules.specs.Filling.{Filling, fills, fill_step, unfill_step}
use Rattle.bytecells.specs.Octets.{cells_of, bytes_of, odd}

-- the same answers, and the cells that are left as bytes
abbrev pub started_bytes : Starting → Starting
started_bytes r = starts r.answer (bytes_of r.store)

abbrev pub sent_bytes : Sending → Sending
sent_bytes r = leaves r.answer (bytes_of r.store) (bytes_of r.symbol)

abbrev pub listened_bytes : Listening → Listening
listened_bytes r = listens r.answer (bytes_of r.store)

abbrev pub heard_bytes : Receiving → Receiving
heard_bytes r = hears r.answer (bytes_of r.store) (bytes_of r.buffer)

abbrev pub filled_bytes : Filling → Filling
filled_bytes r = fills r.answer (bytes_of r.left)

module _ (d : Device) (s : List ℕ) where
  -- fresh emitter: the starting phase and the lent store
  unfoldable pub start_bytes : ℕ → List ℕ → Starting
  start_bytes j store = pick (odd store) (starts (refused_by 21 0) store) (started_bytes (start_step d s j (cells_of store)))

  -- fresh receiver: the same
  unfoldable pub listen_bytes : ℕ → List ℕ → Listening
  listen_bytes j store = pick (odd store) (listens (refused_by 21 0) store) (listened_bytes (listen_step d s j (cells_of store)))

  -- emit: the load profile, the state, the lent store, the data and the lent symbol
  unfoldable pub emit_bytes : List ℕ → EmitterState → List ℕ → List ℕ → List ℕ → Sending
  emit_bytes w e store ds room =
      pick (odd store || odd ds || odd room)
      (leaves (refused_step (refusal 21 0) e) store room)
      (sent_bytes (emit_step d s w e (cells_of store) (cells_of ds) (cells_of room)))

  -- flush: the same without profile and data
  unfoldable pub flush_bytes : EmitterState → List ℕ → List ℕ → Sending
  flush_bytes e store room = pick (odd store || odd room) (leaves (refused_step (refusal 21 0) e) store room) (sent_bytes (flush_step d s e (cells_of store) (cells_of room)))

  -- receive: the load profile, the state, the lent store, the arriving symbol and the lent data buffer
  unfoldable pub receive_bytes : List ℕ → ReceiverState → List ℕ → List ℕ → List ℕ → Receiving
  receive_bytes w v store y b =
      pick (odd store || odd y || odd b)
      (hears (refused_step (refusal 21 0) v) store b)
      (heard_bytes (receive_step d s w v (cells_of store) (cells_of y) (cells_of b)))

  -- fill a data symbol: the load profile, the phase, the stream, the start and the lent data; a stream is no cell buffer
  unfoldable pub fill_bytes : List ℕ → ℕ → List ℕ → ℕ → List ℕ → Filling
  fill_bytes w j stream start room = pick (odd room) (fills (refused_by 21 0) room) (filled_bytes (fill_step d s w j stream start (cells_of room)))

  -- the way back: the load profile, the phase, the data, the start and the lent stream
  unfoldable pub unfill_bytes : List ℕ → ℕ → List ℕ → ℕ → List ℕ → Filling
  unfill_bytes w j ds start stream = pick (odd ds) (fills (refused_by 21 0) stream) (unfill_step d s w j (cells_of ds) start stream)
