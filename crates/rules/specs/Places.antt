-- A store with one place for each symbol of delay: d p places for cell p, the cells in rising p, the oldest first (document 02, request 03). Said for
-- any delays d; an emitter's store and a receiver's are two instances (specs/Store). Assumes nothing.
use Rattle.std.specs.Prelude.{ℕ, zero, suc, ◌-◌, ◌%◌, List, [], ◌∷◌, ◌++◌, get_or, take, drop}
use Rattle.std.proofs.lemmas.List.Edits.{sets}
use Rattle.counting.specs.Search.{sum, tabulate}

-- the delay of cell p in symbols, at depth m: p mod m in an emitter (003), m - 1 - (p mod m) in a receiver
abbrev pub emitter_delay : ℕ → ℕ → ℕ
emitter_delay m p = p % m

abbrev pub receiver_delay : ℕ → ℕ → ℕ
receiver_delay m p = m - 1 - emitter_delay m p

-- f 0, then f 1, .., then f (n - 1), in one list
unfoldable pub joined : (ℕ → List ℕ) → ℕ → List ℕ
joined f zero = []
joined f (suc n) = joined f n ++ f n

module _ (d : ℕ → ℕ) where
  -- the number of places of the cells before p, where those of cell p begin; a store of n cells has `places_before n` places
  unfoldable pub places_before : ℕ → ℕ
  places_before p = sum d p

  -- the places of cell p in the store s, and behind them the cell that comes in, of the symbol x
  unfoldable pub places_and : List ℕ → List ℕ → ℕ → List ℕ
  places_and s x p = take (d p) (drop (places_before p) s) ++ (get_or x p 0 ∷ [])

  -- the cells that go out, of n: of each cell the oldest, and with delay 0 the one that comes in
  unfoldable pub oldest : ℕ → List ℕ → List ℕ → List ℕ
  oldest n s x = tabulate (λ p. get_or (places_and s x p) 0 0) n

  -- the store after the step: of each cell the oldest dropped, the one that comes in appended; past the places nothing changes
  unfoldable pub moved : ℕ → List ℕ → List ℕ → List ℕ
  moved n s x = sets s 0 (joined (λ p. drop 1 (places_and s x p)) n)
