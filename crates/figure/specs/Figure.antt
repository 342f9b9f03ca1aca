-- The time interleaver as document 003 draws it ("Time Interleaving", with its figure of the commutator; document 02, request 09): M delay lines, line r
-- holding r * J cells, the oldest first. The commutator stands on a line: one cell goes in, the oldest comes out, and the commutator moves on to the
-- next line. Assumes nothing.
use Rattle.std.specs.Prelude.{ℕ, zero, suc, ◌+◌, ◌-◌, ◌*◌, ◌/◌, ◌%◌, List, [], ◌∷◌, ◌++◌, ltb, get_or, take, drop}
use Rattle.std.proofs.lemmas.List.Edits.{sets}
use Rattle.counting.specs.Search.{pick, sum, tabulate}
use Rattle.rules.specs.Frame.{filler}

-- n / m, rounded up. J is the ceiling of N_I / M.
unfoldable pub ceiling : ℕ → ℕ → ℕ
ceiling n m = (n + (m - 1)) / m

-- ---- the lines side by side in one store

-- where line r begins: after lines 0 to r - 1. So M lines have `line_begins J M` cells, which is J * M * (M - 1) / 2.
unfoldable pub line_begins : ℕ → ℕ → ℕ
line_begins J r = sum (λ q. q * J) r

-- line r of the store s: its r * J cells, the oldest first
unfoldable pub delay_line : ℕ → List ℕ → ℕ → List ℕ
delay_line J s r = take (r * J) (drop (line_begins J r) s)

-- ---- one cell: c goes into line r, and the oldest comes out

-- line r with c behind its cells
unfoldable pub line_and : ℕ → List ℕ → ℕ → ℕ → List ℕ
line_and J s r c = delay_line J s r ++ (c ∷ [])

-- the cell that comes out; line 0 holds none, and c itself comes out
unfoldable pub cell_out : ℕ → List ℕ → ℕ → ℕ → ℕ
cell_out J s r c = get_or (line_and J s r c) 0 0

-- the store then: line r without the cell that came out, every other line as it was
unfoldable pub store_after : ℕ → List ℕ → ℕ → ℕ → List ℕ
store_after J s r c = sets s (line_begins J r) (drop 1 (line_and J s r c))

-- ---- one symbol x of n cells, at depth m: J turns of the commutator, from line 0 on

-- the line on which the commutator stands for cell p: it moves on by one line for every cell, around the m lines
unfoldable pub commutator : ℕ → ℕ → ℕ
commutator m p = p % m

-- cell p goes in: at the end of the symbol's n cells filler dummies are added
unfoldable pub cell_in : ℕ → List ℕ → ℕ → ℕ
cell_in n x p = pick (ltb p n) (get_or x p 0) filler

module _ (m n : ℕ) where
  -- the store s after the first p cells
  unfoldable pub store_at : List ℕ → List ℕ → ℕ → List ℕ
  store_at s x zero = s
  store_at s x (suc p) = store_after (ceiling n m) (store_at s x p) (commutator m p) (cell_in n x p)

  -- the cell that comes out as cell p goes in
  unfoldable pub out_at : List ℕ → List ℕ → ℕ → ℕ
  out_at s x p = cell_out (ceiling n m) (store_at s x p) (commutator m p) (cell_in n x p)

  -- the store after the symbol and its dummies, J * M cells in all
  unfoldable pub figure_store : List ℕ → List ℕ → List ℕ
  figure_store s x = store_at s x (ceiling n m * m)

  -- the cells that come out for those of the symbol
  unfoldable pub figure_cells : List ℕ → List ℕ → List ℕ
  figure_cells s x = tabulate (out_at s x) n

  -- what comes out for the J * M - N_I dummies is thrown away
  unfoldable pub thrown_away : List ℕ → List ℕ → List ℕ
  thrown_away s x = tabulate (λ i. out_at s x (n + i)) (ceiling n m * m - n)
