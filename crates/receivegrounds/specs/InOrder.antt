-- What a receive step relies on once no ground refuses it. Assumes nothing.
use Rattle.std.specs.Prelude.{◌≡◌, List, ℕ, ◌-◌, ◌≤◌, ◌<◌, length, get_or}
use Rattle.rules.specs.Device.{phases}
use Rattle.rules.specs.Frame.{Frame, cells, spot}
use Rattle.rules.specs.Store.{receiver_places}
use Rattle.rules.specs.Receive.{Receiver, Arrival, out_count}
use Rattle.fill.specs.Flags.{Flagged}

-- m is the depth, n is N_I, and nd data cells are to be handed out
pub record ReceiveInOrder (F : Frame) (v : Receiver) (a : Arrival) (m n nd : ℕ) : Type 0 where
  pub deep : m ≡ F.depth
  pub shallow : m ≤ phases
  pub all : n ≡ cells F
  pub few : n ≤ F.width
  pub phase_in : v.state.phase < phases
  pub heard_in : v.state.heard < m
  pub places_fit : receiver_places F ≤ length v.store
  pub whole : length a.symbol ≡ F.width
  pub number : nd ≡ out_count F v.state
  pub room : m - 1 ≤ v.state.heard → nd ≤ length a.buffer

-- the list holds the subcarriers of the cells
abbrev pub Spots : Frame → List ℕ → Type 0
Spots F kc = (p : ℕ) → p < cells F → get_or kc p 0 ≡ spot F p

-- what a step has made of a plan of depth 128 at most for the input symbol at phase j: the subcarriers of the cells, and the flags of the
-- placeholders, in lists with a place for each cell
pub record Prepared (F : Frame) (j : ℕ) (kc flag : List ℕ) : Type 0 where
  pub shallow : F.depth ≤ phases
  pub cells_fit : cells F ≤ length kc
  pub flags_fit : cells F ≤ length flag
  pub spots : Spots F kc
  pub flags : Flagged F j flag
