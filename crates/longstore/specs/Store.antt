-- The long store, M rows of N_I cells in one flat list: cell p of row r stands at r * n + p (document 01, "Cells and interleaving", "State"). The
-- short store (02, request 03) is compared with it; no code needs it. Assumes nothing.
use Rattle.std.specs.Prelude.{ℕ, zero, suc, ◌+◌, ◌-◌, ◌*◌, ◌/◌, ◌%◌, List, get_or, replicate}
use Rattle.std.proofs.lemmas.List.Edits.{sets}
use Rattle.counting.specs.Search.{tabulate}
use Rattle.rules.specs.Frame.{Frame, cells, flush, input_cells, phase_back, filler}

-- cell p of row r, of rows of n cells
unfoldable pub cell_at : ℕ → List ℕ → ℕ → ℕ → ℕ
cell_at n s r p = get_or s (r * n + p) 0

-- the store with the symbol x written into row r
unfoldable pub put_row : ℕ → List ℕ → ℕ → List ℕ → List ℕ
put_row n s r x = sets s (r * n) x

-- rows go up by one, modulo M
unfoldable pub next_row : ℕ → ℕ → ℕ
next_row m r = (r + 1) % m

-- the cells sent from row r, of m rows of n cells: cell p from the row d p back, around the ring
unfoldable pub delayed : ℕ → ℕ → (ℕ → ℕ) → List ℕ → ℕ → List ℕ
delayed m n d s r = tabulate (λ p. cell_at n s ((r + (m - d p)) % m) p) n

module _ (F : Frame) where
  -- A fresh emitter's store at phase j: row 0 is filler; row M - r, for r from 1 to M - 1, holds the symbol r steps back, at phase
  -- (phase - r) mod 128, filler in every data cell. So row i holds the symbol M - i steps back.
  unfoldable pub fresh_cell : ℕ → ℕ → ℕ → ℕ
  fresh_cell j zero p = filler
  fresh_cell j (suc i) p = get_or (input_cells F (phase_back F j (F.depth - suc i)) flush) p 0

  -- the lent store s filled so; cells past M * N_I are untouched
  unfoldable pub fresh_store : ℕ → List ℕ → List ℕ
  fresh_store j s = sets s 0 (tabulate (λ i. fresh_cell j (i / cells F) (i % cells F)) (F.depth * cells F))

  -- a fresh receiver's store: the lent store s with filler in all M * N_I cells
  unfoldable pub filler_store : List ℕ → List ℕ
  filler_store s = sets s 0 (replicate (F.depth * cells F) filler)
