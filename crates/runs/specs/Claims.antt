-- What is claimed of every accepted plan beside demand 3 (document 01, "Roles of a subcarrier" and "Cells and interleaving"), of entries over cells or over bytes.
-- Statements only. Assumes nothing.
use Rattle.std.specs.Prelude.{ℕ, ◌+◌, ◌*◌, ◌≤◌, ◌<◌, ◌≡◌, true, List, [], length, get_or, replicate, Ok, is_ok}
use Rattle.rules.specs.Frame.{Frame, data_count, fits_role, Given, flush, symbol, top_data}
use Rattle.rules.specs.Loads.{ground25, load_limit, limit_at, data_loads}
use Rattle.rules.specs.Filling as a-filling
use Rattle.rules.specs.Filling.{bit_count}
use Rattle.rules.specs.Store.{emitter_places, receiver_places}
use Rattle.rules.specs.Steps.{Emitter, Send}
use Rattle.frame.specs.Counted.{phase_of, Counts}
use Rattle.runs.specs.Run.{Entries, UnderProfile, sent, emitter_after, Fresh}

-- data that an emit step may be given under the profile w at phase j: N_D numbers, each up to the limit of its load
pub record InputAt (F : Frame) (E : Entries) (w : List ℕ) (j : ℕ) (ds : List ℕ) : Type 0 where
  pub whole : E.whole ds ≡ true
  pub many : length (E.read ds) ≡ data_count F j
  pub small : (c : ℕ) → c < length (E.read ds) → get_or (E.read ds) c 0 ≤ load_limit (get_or (data_loads F w j) c 0)

-- the claims of runs through the entries E, under the plan whose frame is F
pub record PlanClaims (F : Frame) (E : Entries) : Type 0 where
  -- N_D is at least 1 at every phase
  pub some_data : (j : ℕ) → j < F.phases → 1 ≤ data_count F j
  -- each rank is scattered once in 128 phases; the data cells of 128 input symbols, and of 128 emitted ones, number 127 times N_I
  pub counts : Counts F
  -- the pilot rule, of all runs, with any profiles in their steps: in every sent symbol each subcarrier carries what its role at the symbol's phase asks for, data up to 16383
  pub marked : (j : ℕ) (e : Emitter) → Fresh E j e → (steps : List Send) (n k : ℕ) → n < length (sent E e steps) → k < F.width
      → fits_role top_data (F.role (phase_of F j n) k) (get_or (get_or (sent E e steps) n []) k 0) ≡ true
  -- of runs under one profile: data up to the limit of the subcarrier's load
  pub loaded : (w : List ℕ) → ground25 F.width w ≡ Ok tt → (j : ℕ) (e : Emitter) → Fresh E j e → (steps : List Send) → UnderProfile w steps
      → (n k : ℕ) → n < length (sent E e steps) → k < F.width
      → fits_role (limit_at w k) (F.role (phase_of F j n) k) (get_or (get_or (sent E e steps) n []) k 0) ≡ true
  -- a fresh start at a phase below 128 is not refused: of an emitter in a store of at least `emitter_places` cells, of a receiver in one of `receiver_places`
  pub started : (j : ℕ) (lent : List ℕ) → j < F.phases → E.whole lent ≡ true → emitter_places F ≤ length (E.read lent) → is_ok (E.start j lent).answer ≡ true
  pub listens : (j : ℕ) (lent : List ℕ) → j < F.phases → E.whole lent ≡ true → receiver_places F ≤ length (E.read lent) → is_ok (E.listen j lent).answer ≡ true
  -- in every run, one more step that is lent a symbol of 4,096 cells is not refused: an emit step given a profile that 25 does not refuse and N_D numbers up to the limits of
  -- their loads, and a flush
  pub emits : (j : ℕ) (e : Emitter) → Fresh E j e → (steps : List Send) (w ds room : List ℕ) → ground25 F.width w ≡ Ok tt
      → InputAt F E w (phase_of F j (length (sent E e steps))) ds → E.whole room ≡ true → length (E.read room) ≡ F.width
      → is_ok (E.send (emitter_after E e steps) (record { given = symbol ds; profile = w; room = room })).answer ≡ true
  pub flushes : (j : ℕ) (e : Emitter) → Fresh E j e → (steps : List Send) (w room : List ℕ) → E.whole room ≡ true → length (E.read room) ≡ F.width
      → is_ok (E.send (emitter_after E e steps) (record { given = flush; profile = w; room = room })).answer ≡ true
  -- a flush step is the same under every profile
  pub flush_same : (e : Emitter) (w w' room : List ℕ)
      → E.send e (record { given = flush; profile = w; room = room }) ≡ E.send e (record { given = flush; profile = w'; room = room })
  -- a step that is accepted under any profile is the same under load 14 everywhere
  pub fourteen_same : (e : Emitter) (g : Given) (w room : List ℕ) → is_ok (E.send e (record { given = g; profile = w; room = room })).answer ≡ true
      → E.send e (record { given = g; profile = replicate F.width 14; room = room }) ≡ E.send e (record { given = g; profile = w; room = room })
  -- filling at a phase below 128, lent N_D cells, from a stream that has the bits of the symbol from bit a on, is not refused; what it leaves an emit step may be given
  pub fills : (w : List ℕ) → ground25 F.width w ≡ Ok tt → (j : ℕ) → j < F.phases → (stream : List ℕ) (a : ℕ) (room : List ℕ)
      → E.whole room ≡ true → length (E.read room) ≡ data_count F j → a + bit_count F w j ≤ length stream * 8
      → (E.fill w j stream a room).answer ≡ Ok (bit_count F w j)
  pub filled : (w : List ℕ) → ground25 F.width w ≡ Ok tt → (j : ℕ) (stream : List ℕ) (a n : ℕ) (room left : List ℕ)
      → E.fill w j stream a room ≡ a-filling.fills (Ok n) left → InputAt F E w j left
