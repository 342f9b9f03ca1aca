-- What a receive step that no ground refuses answers and leaves, return by return: one law for each. Assumes nothing.
use mathlib.Core.Path.{◌≡◌, refl, ap, ◌∙◌}
use mathlib.Core.Bool.{true, false}
use mathlib.Core.List.{List, []}
use Prim.Native.Nat.{ℕ, ◌+◌, ◌-◌, ◌%◌}
use lib.Dec.{ltb}
use lib.Seq.{sets}
use Rattle.std.specs.Prelude.{Ok}
use Rattle.rules.specs.declared.Heard.TheVariants.{Warming, Data}
use Rattle.counting.specs.Search.{pick}
use Rattle.counting.proofs.Lists.{length_tabulate}
use Rattle.rules.specs.declared.ReceiverState.{ReceiverState}
use Rattle.rules.specs.Frame.{Frame, cells, line_cells}
use Rattle.rules.specs.Places.{receiver_delay, oldest, moved}
use Rattle.rules.specs.Receive.{Receiver, Arrival, hears, warming, out_phase, out_count, heard_state, heard_store, handed, received}
use Rattle.fill.specs.Flags.{Flagged, taken_data}
use Rattle.fill.proofs.Inputs.{taken}

abbrev pub at : ReceiverState → List ℕ → Receiver
at v s = record { state = v; store = s }

abbrev pub arriving : List ℕ → List ℕ → List ℕ → Arrival
arriving w y b = record { profile = w; symbol = y; buffer = b }

-- what a step that no ground refuses leaves hangs on no profile
pub unprofiled : (F : Frame) (v : Receiver) (a : Arrival) → received F v (arriving [] a.symbol a.buffer) ≡ received F v a
unfolding received
unprofiled F v a = refl

-- ---- warming, and the state of the next step, for depth m

module _ (F : Frame) (v : ReceiverState) (m : ℕ) (em : m ≡ F.depth) where
  pub warming_at : ltb v.heard (m - 1) ≡ warming F v
  unfolding warming
  warming_at = ap (λ (k : ℕ). ltb v.heard (k - 1)) em

  pub state_at : (n : ℕ) → n ≡ F.phases → ◌≡◌ {A = ReceiverState} (record { phase = (v.phase + 1) % n; heard = pick (ltb v.heard (m - 1)) (v.heard + 1) v.heard }) (heard_state F v)
  unfolding heard_state
  state_at n en = λ i. record { phase = (v.phase + 1) % en i; heard = pick (warming_at i) (v.heard + 1) v.heard }

-- ---- the answers

module _ (F : Frame) (v : Receiver) (a : Arrival) where
  module _ (m n : ℕ) (em : m ≡ F.depth) (en : n ≡ cells F) where
    -- the store that the arriving cells have moved
    pub store_at : moved (receiver_delay m) n v.store (line_cells F a.symbol) ≡ heard_store F v a.symbol
    unfolding heard_store
    store_at = λ i. moved (receiver_delay (em i)) (en i) v.store (line_cells F a.symbol)

    -- the data taken from the oldest cells is what is handed out
    pub gathered : (flag : List ℕ) → Flagged F (out_phase F v.state.phase) flag
        → taken_data flag (oldest (receiver_delay m) n v.store (line_cells F a.symbol)) ≡ handed F v a.symbol
    unfolding handed oldest
    gathered flag hf =
        (λ i. taken_data flag (oldest (receiver_delay (em i)) (en i) v.store (line_cells F a.symbol)))
        ∙ taken F (out_phase F v.state.phase) flag (oldest (receiver_delay F.depth) (cells F) v.store (line_cells F a.symbol)) (length_tabulate _ (cells F)) hf

  module _ (st : List ℕ) (r : ReceiverState) (es : st ≡ heard_store F v a.symbol) (er : r ≡ heard_state F v.state) where
    -- while warming: no data is written
    pub warmed : warming F v.state ≡ true → hears (Ok (Warming r)) st a.buffer ≡ received F v a
    unfolding received
    warmed w = rw w (λ i. hears (Ok (Warming (er i))) (es i) a.buffer)

    -- with data
    pub data_handed : warming F v.state ≡ false → (n : ℕ) (out : List ℕ) → n ≡ out_count F v.state → out ≡ sets a.buffer 0 (handed F v a.symbol) → hears (Ok (Data r n)) st out ≡ received F v a
    unfolding received
    data_handed w n out en eo = rw w (λ i. hears (Ok (Data (er i) (en i))) (es i) (eo i))
