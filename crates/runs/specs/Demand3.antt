-- Demand 3: one claim about whole runs from a fresh start (document 01, "Cells and interleaving"; 02, request 07), of entries over cells or over bytes. Statements only.
-- Assumes nothing.
use Rattle.std.specs.Prelude.{ℕ, ◌+◌, ◌-◌, ◌≤◌, ◌<◌, ◌≡◌, ◌↔◌, true, List, [], length, get_or, Ok, is_ok}
use Rattle.counting.specs.Search.{select}
use Rattle.rules.specs.declared.Role.TheVariants.{Data}
use Rattle.rules.specs.Frame.{Frame, cells, spot, delay, is_data, data_count, Given, flush, symbol, data_list}
use Rattle.rules.specs.Loads.{ground25}
use Rattle.rules.specs.Steps.{Emitter, Send}
use Rattle.rules.specs.Receive.{Receiver, Arrival}
use Rattle.frame.specs.Counted.{phase_of}
use Rattle.runs.specs.Run.{Entries, UnderProfile, input, sent, Fresh, warming, handed, refused, heard, outcomes, receiver_after, FreshReceiver}
use Rattle.runs.specs.Follow.{Flushed, Follows}
use Rattle.runs.specs.Streams.{Streams}

-- How many data cells input t has, from the starting phase j; `phase_of F j t` is the phase of input t, and of sent symbol t.
abbrev pub data_cells : Frame → ℕ → ℕ → ℕ
data_cells F j t = data_count F (phase_of F j t)

-- the cell that takes number c of the data of input t
abbrev pub data_cell : Frame → ℕ → ℕ → ℕ → ℕ
data_cell F j t c = select (is_data F (phase_of F j t)) (cells F) c

-- The place of cell q of input t is the subcarrier of q's rank, `spot F q`, in the sent symbol of this number.
abbrev pub sent_number : Frame → ℕ → ℕ → ℕ
sent_number F t q = t + delay F q

-- the input gs and the sent symbols ys of a run from the starting phase j, under the plan whose frame is F
pub record Placed (F : Frame) (j : ℕ) (gs : List Given) (ys : List (List ℕ)) : Type 0 where
  -- each accepted step sends one symbol
  pub one_each : length ys ≡ length gs
  -- a data symbol has as many numbers as its phase has data cells
  pub all_given : (t : ℕ) (ds : List ℕ) → t < length gs → get_or gs t flush ≡ symbol ds → length ds ≡ data_cells F j t
  -- each number goes into a cell below N_I, and no two of one symbol into the same
  pub cell : (t c : ℕ) → c < data_cells F j t → data_cell F j t c < cells F
  pub own_cell : (t c c' : ℕ) → c < data_cells F j t → c' < data_cells F j t → data_cell F j t c ≡ data_cell F j t c' → c ≡ c'
  -- no two cells of any inputs share a place
  pub own_place : (t t' q q' : ℕ) → q < cells F → q' < cells F → sent_number F t q ≡ sent_number F t' q' → spot F q ≡ spot F q' → (t ≡ t') × (q ≡ q')
  -- the place of a data cell is a subcarrier of the symbol, with the role data at the symbol's phase
  pub inside : (t c : ℕ) → c < data_cells F j t → spot F (data_cell F j t c) < F.width
  pub role_data : (t c : ℕ) → c < data_cells F j t → F.role (phase_of F j (sent_number F t (data_cell F j t c))) (spot F (data_cell F j t c)) ≡ Data
  -- once the run reaches the place, the number stands there unchanged
  pub stands : (t c : ℕ) (ds : List ℕ) → t < length gs → get_or gs t flush ≡ symbol ds → c < length ds → sent_number F t (data_cell F j t c) < length ys
      → get_or (get_or ys (sent_number F t (data_cell F j t c)) []) (spot F (data_cell F j t c)) 0 ≡ get_or ds c 0

-- the outcomes of the steps of a receiver v, if its run follows an emitter's of the steps sends, with the input gs and the sent symbols ys
pub record Returned (F : Frame) (E : Entries) (j : ℕ) (sends : List Send) (gs : List Given) (ys : List (List ℕ)) (v : Receiver) (steps : List Arrival) : Type 0 where
  -- each accepted step has one; numbers 0 to M - 2 answer warming
  pub each : length (outcomes E v steps) ≡ length (heard E v steps)
  pub warms : (i : ℕ) → i < length (heard E v steps) → i < F.depth - 1 → get_or (outcomes E v steps) i refused ≡ warming
  -- number t + M - 1 answers data, with N_D of input t as its count, and hands out the data cells of input t in the order given, all filler for a flush
  pub back : (t : ℕ) → t + (F.depth - 1) < length (heard E v steps)
      → get_or (outcomes E v steps) (t + (F.depth - 1)) refused ≡ handed (data_cells F j t) (data_list F (phase_of F j t) (get_or gs t flush))
  -- one more step, given the profile that the emitter's run is under, the next symbol sent and, unless it is to answer warming, a data buffer long enough, is not refused
  pub next : (w : List ℕ) → ground25 F.width w ≡ Ok tt → UnderProfile w sends → (a : Arrival) → a.profile ≡ w → E.whole a.symbol ≡ true → E.whole a.buffer ≡ true
      → length (heard E v steps) < length ys → E.read a.symbol ≡ get_or ys (length (heard E v steps)) []
      → (F.depth - 1 ≤ length (heard E v steps) → data_cells F j (length (heard E v steps) - (F.depth - 1)) ≤ length (E.read a.buffer))
      → is_ok (E.hear (receiver_after E v steps) a).answer ≡ true

-- demand 3 of runs through the entries E, under the plan whose frame is F
pub record Demand3 (F : Frame) (E : Entries) : Type 0 where
  -- each data cell has one place of its own
  pub placed : (j : ℕ) (e : Emitter) → Fresh E j e → (steps : List Send) → Placed F j (input E e steps) (sent E e steps)
  -- two flushed runs send the same symbols exactly when their inputs are the same
  pub unique : (j : ℕ) (e e' : Emitter) → Fresh E j e → Fresh E j e' → (steps steps' : List Send)
      → Flushed F.depth (input E e steps) → Flushed F.depth (input E e' steps')
      → (sent E e steps ≡ sent E e' steps') ↔ (input E e steps ≡ input E e' steps')
  -- the receiver hands the input back
  pub returned : (j : ℕ) (e : Emitter) (v : Receiver) → Fresh E j e → FreshReceiver E j v → (steps : List Send) (arrivals : List Arrival)
      → Follows (sent E e steps) (heard E v arrivals) → Returned F E j steps (input E e steps) (sent E e steps) v arrivals
  -- and so with bit streams, under one profile that 25 does not refuse
  pub streams : (w : List ℕ) → ground25 F.width w ≡ Ok tt → Streams F E w
