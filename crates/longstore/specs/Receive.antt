-- What the receiver's entries answer and leave with the long store: grounds 1 to 15 and 25, then 16, 17 and 20 (document 01, "Cells and interleaving", "State"
-- and "The twenty grounds"; 02, request 07). A refused step changes nothing and hands the state back. The steps of crate rules are compared with these (02,
-- request 03); no code needs them. Assumes nothing.
use Rattle.std.specs.Prelude.{ℕ, ◌+◌, ◌-◌, Bool, not, ◌&&◌, ◌||◌, List, leb, ltb, eqb, length, Result, Ok, Err}
use Rattle.std.proofs.lemmas.List.Edits.{sets}
use Rattle.counting.specs.Search.{pick, when}
use Rattle.rules.specs.declared.Device.{Device}
use Rattle.rules.specs.declared.Refusal.{Refusal}
use Rattle.rules.specs.declared.RefusedStep.{RefusedStep}
use Rattle.rules.specs.declared.Heard.{Heard}
use Rattle.rules.specs.declared.Heard.TheVariants.{Warming, Data}
use Rattle.rules.specs.Refusals.{Finding, refused_step}
use Rattle.rules.specs.Plan.{plan_of}
use Rattle.rules.specs.Grounds.{◌else◌, ground?, grounds1to15}
use Rattle.rules.specs.Frame.{Frame, frame_of, cells, delay, next_phase, data_count, line_cells, data_of}
use Rattle.rules.specs.Loads.{ground25}
use Rattle.rules.specs.Receive.{Arrival, out_phase, ground20}
use Rattle.longstore.specs.declared.ReceiverState.{ReceiverState}
use Rattle.longstore.specs.Store.{put_row, next_row, delayed, filler_store}
use Rattle.longstore.specs.Steps.{short_store, start_grounds}

-- a receiver between two steps: the state's numbers, and the store
pub record Receiver : Type 0 where
  pub state : ReceiverState
  pub store : List ℕ

-- what a step answers, and the store and the data buffer as it leaves them
pub record Receiving : Type 0 where
  pub answer : Result (Heard ReceiverState) (RefusedStep ReceiverState)
  pub store : List ℕ
  pub buffer : List ℕ

abbrev pub hears : Result (Heard ReceiverState) (RefusedStep ReceiverState) → List ℕ → List ℕ → Receiving
hears r s b = record { answer = r; store = s; buffer = b }

-- what a fresh start answers, and the lent store as it leaves it
pub record Listening : Type 0 where
  pub answer : Result ReceiverState Refusal
  pub store : List ℕ

abbrev pub listens : Result ReceiverState Refusal → List ℕ → Listening
listens r s = record { answer = r; store = s }

abbrev pub turned_away : Receiver → Arrival → Refusal → Receiving
turned_away v a r = hears (refused_step r v.state) v.store a.buffer

module _ (F : Frame) where
  -- warming: exactly while heard is below M - 1
  unfoldable pub warming : ReceiverState → Bool
  warming v = ltb v.heard (F.depth - 1)

  -- how many data cells the input symbol has that is handed out
  abbrev pub out_count : ReceiverState → ℕ
  out_count v = data_count F (out_phase F v.phase)

  -- 16: a phase, row or heard is out of its range
  unfoldable pub receiver_ground16 : ReceiverState → Finding
  receiver_ground16 v = ground? 16 (when (leb F.phases v.phase || leb F.depth v.row || leb F.depth v.heard) 0)

  -- where the answer would not be warming, the data buffer is shorter than the count
  unfoldable pub short_buffer : ReceiverState → List ℕ → Bool
  short_buffer v b = not (warming v) && ltb (length b) (out_count v)

  -- 17: the store is too short, the symbol is not 4,096 cells, or the data buffer is too short
  unfoldable pub receiver_ground17 : Receiver → Arrival → Finding
  receiver_ground17 v a =
      ground? 17 (when (short_store F v.store || not (eqb (length a.symbol) F.width) || short_buffer v.state a.buffer) 0)

  -- the grounds of a receive step under an accepted plan; 25 is tried after 15
  unfoldable pub receive_grounds : Receiver → Arrival → Finding
  receive_grounds v a =
      ground25 F.width a.profile
      else receiver_ground16 v.state
      else receiver_ground17 v a
      else ground20 F a.profile v.state.phase a.symbol

  -- phase and row go up by one; heard does while warming
  unfoldable pub heard_state : ReceiverState → ReceiverState
  heard_state v = record {
    phase = next_phase F v.phase;
    row = next_row F.depth v.row;
    heard = pick (warming v) (v.heard + 1) v.heard;
  }

  -- the store with the N_I arriving cells in the current row, in cell order; no other row changes
  unfoldable pub heard_store : Receiver → List ℕ → List ℕ
  heard_store v y = put_row (cells F) v.store v.state.row (line_cells F y)

  -- cell p is taken from this many rows back
  abbrev pub rows_back : ℕ → ℕ
  rows_back p = F.depth - 1 - delay F p

  -- the data cells (or filler) handed out: of the input symbol at phase (phase - M + 1) mod 128
  unfoldable pub handed : Receiver → List ℕ → List ℕ
  handed v y = data_of F (out_phase F v.state.phase) (delayed F.depth (cells F) rows_back (heard_store v y) v.state.row)

  -- warming writes no data; else the data goes to the start of the buffer, cells past the count untouched
  unfoldable pub received : Receiver → Arrival → Receiving
  received v a =
      pick (warming v.state)
      (hears (Ok (Warming (heard_state v.state))) (heard_store v a.symbol) a.buffer)
      (hears (Ok (Data (heard_state v.state) (out_count v.state))) (heard_store v a.symbol) (sets a.buffer 0 (handed v a.symbol)))

  -- a step under an accepted plan
  unfoldable pub frame_receive : Receiver → Arrival → Receiving
  frame_receive v a = elim (receive_grounds v a) [ Ok _ ↦ received v a | Err r ↦ turned_away v a r ]

  -- a fresh receiver under an accepted plan: row 0, heard 0, and the store all filler
  unfoldable pub frame_listen : ℕ → List ℕ → Listening
  frame_listen j s =
      elim (start_grounds F j s) [
        | Ok _ ↦ listens (Ok (record { phase = j; row = 0; heard = 0 })) (filler_store F s)
        | Err r ↦ listens (Err r) s
      ]

module _ (d : Device) (s : List ℕ) where
  -- a receive step of any bytes as a plan
  unfoldable pub hear_step : Receiver → Arrival → Receiving
  hear_step v a = elim (grounds1to15 d s) [ Ok _ ↦ frame_receive (frame_of d (plan_of s)) v a | Err r ↦ turned_away v a r ]

  -- fresh receiver: the starting phase and the lent store
  unfoldable pub listen_step : ℕ → List ℕ → Listening
  listen_step j store =
      elim (grounds1to15 d s) [ Ok _ ↦ frame_listen (frame_of d (plan_of s)) j store | Err r ↦ listens (Err r) store ]
