-- What the emitter's entries answer and leave with the long store: grounds 1 to 15 and 25, then those of 16 to 19 that speak of what the entry is given
-- (document 01, "Cells and interleaving", "State" and "The twenty grounds"; 02, request 07). A refused step changes nothing and hands the state back. The
-- steps of crate rules are compared with these (02, request 03); no code needs them. Assumes nothing.
use Rattle.std.specs.Prelude.{ℕ, ◌*◌, Bool, not, ◌||◌, List, leb, ltb, eqb, length, Result, Ok, Err}
use Rattle.counting.specs.Search.{when}
use Rattle.rules.specs.declared.Device.{Device}
use Rattle.rules.specs.declared.Refusal.{Refusal}
use Rattle.rules.specs.declared.RefusedStep.{RefusedStep}
use Rattle.rules.specs.Refusals.{Finding, refused_step}
use Rattle.rules.specs.Plan.{plan_of}
use Rattle.rules.specs.Grounds.{◌else◌, ground?, grounds1to15}
use Rattle.rules.specs.Frame.{Frame, frame_of, cells, delay, next_phase, Given, input_cells, line_symbol}
use Rattle.rules.specs.Steps.{Send, ground16, profile_ground, given_grounds}
use Rattle.longstore.specs.declared.EmitterState.{EmitterState}
use Rattle.longstore.specs.Store.{put_row, next_row, delayed, fresh_store}

-- an emitter between two steps: the state's numbers, and the store
pub record Emitter : Type 0 where
  pub state : EmitterState
  pub store : List ℕ

-- what a step answers, and the store and the lent symbol as it leaves them
pub record Sending : Type 0 where
  pub answer : Result EmitterState (RefusedStep EmitterState)
  pub store : List ℕ
  pub symbol : List ℕ

abbrev pub leaves : Result EmitterState (RefusedStep EmitterState) → List ℕ → List ℕ → Sending
leaves r s y = record { answer = r; store = s; symbol = y }

-- what a fresh start answers, and the lent store as it leaves it
pub record Starting : Type 0 where
  pub answer : Result EmitterState Refusal
  pub store : List ℕ

abbrev pub starts : Result EmitterState Refusal → List ℕ → Starting
starts r s = record { answer = r; store = s }

abbrev pub refused : Emitter → Send → Refusal → Sending
refused e a r = leaves (refused_step r e.state) e.store a.room

module _ (F : Frame) where
  -- 16: a phase or row is out of its range
  unfoldable pub state_ground16 : ℕ → ℕ → Finding
  state_ground16 j r = ground? 16 (when (leb F.phases j || leb F.depth r) 0)

  -- 17: the store is shorter than M * N_I
  unfoldable pub short_store : List ℕ → Bool
  short_store s = ltb (length s) (F.depth * cells F)

  -- 17: the store is too short, or the symbol is not 4,096 cells
  unfoldable pub ground17 : List ℕ → List ℕ → Finding
  ground17 s room = ground? 17 (when (short_store s || not (eqb (length room) F.width)) 0)

  -- the grounds of an emit or flush step under an accepted plan
  unfoldable pub send_grounds : Emitter → Send → Finding
  send_grounds e a =
      profile_ground F a.profile a.given
      else state_ground16 e.state.phase e.state.row
      else ground17 e.store a.room
      else given_grounds F a.profile e.state.phase a.given

  -- phase and row go up by one
  unfoldable pub next_state : EmitterState → EmitterState
  next_state e = record { phase = next_phase F e.phase; row = next_row F.depth e.row }

  -- the store with the input symbol in the current row; no other row changes
  unfoldable pub sent_store : Emitter → Given → List ℕ
  sent_store e g = put_row (cells F) e.store e.state.row (input_cells F e.state.phase g)

  -- the symbol sent: cell p from the row p mod M back
  unfoldable pub sent_symbol : Emitter → Given → List ℕ
  sent_symbol e g = line_symbol F (delayed F.depth (cells F) (delay F) (sent_store e g) e.state.row)

  unfoldable pub accepted : Emitter → Given → Sending
  accepted e g = leaves (Ok (next_state e.state)) (sent_store e g) (sent_symbol e g)

  -- a step under an accepted plan
  unfoldable pub frame_step : Emitter → Send → Sending
  frame_step e a = elim (send_grounds e a) [ Ok _ ↦ accepted e a.given | Err r ↦ refused e a r ]

  -- the grounds of a fresh start, of an emitter or a receiver, under an accepted plan
  unfoldable pub start_grounds : ℕ → List ℕ → Finding
  start_grounds j s = ground16 F j else ground? 17 (when (short_store s) 0)

  -- a fresh start under an accepted plan: row 0, and the store filled
  unfoldable pub frame_start : ℕ → List ℕ → Starting
  frame_start j s =
      elim (start_grounds j s) [
        | Ok _ ↦ starts (Ok (record { phase = j; row = 0 })) (fresh_store F j s)
        | Err r ↦ starts (Err r) s
      ]

module _ (d : Device) (s : List ℕ) where
  -- an emit or flush step of any bytes as a plan
  unfoldable pub send_step : Emitter → Send → Sending
  send_step e a = elim (grounds1to15 d s) [ Ok _ ↦ frame_step (frame_of d (plan_of s)) e a | Err r ↦ refused e a r ]

  -- fresh emitter: the starting phase and the lent store
  unfoldable pub start_step : ℕ → List ℕ → Starting
  start_step j store =
      elim (grounds1to15 d s) [ Ok _ ↦ frame_start (frame_of d (plan_of s)) j store | Err r ↦ starts (Err r) store ]
