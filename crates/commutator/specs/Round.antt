-- The commutator's way round the delay lines while a symbol goes in. A line is a ring in its own part of the store: in turn q the oldest cell of line r
-- stands at place q of the line, and the cell that goes in takes its place. Assumes nothing.
use Rattle.std.specs.Prelude.{ℕ, ◌+◌, ◌*◌, ◌/◌, ◌%◌, ◌≤◌, ◌<◌, ◌≡◌, List, ltb, eqb, length, get_or, set}
use Rattle.counting.specs.Search.{pick}
use Rattle.figure.specs.Figure.{line_begins, cell_in}

-- the cells x with v, which came out for cell p, in its place; what comes out for a dummy is thrown away
unfoldable pub with_sent : List ℕ → ℕ → ℕ → List ℕ
with_sent x p v = pick (ltb p (length x)) (set x p v) x

-- what comes out for cell p: on line 0 the cell itself, on another line the cell that stood at the place of this turn
unfoldable pub comes_out : ℕ → ℕ → List ℕ → List ℕ → ℕ → ℕ
comes_out J m s x p = pick (eqb (p % m) 0) (get_or x p 0) (get_or s (line_begins J (p % m) + p / m) 0)

-- Of the symbol x the first p cells, dummies among them, have gone into the m lines of the store s: place i of line r has taken in cell i * m + r. The
-- store is now t, and in the place of these cells y has those that came out.
pub record Gone (J m : ℕ) (s x : List ℕ) (p : ℕ) (t y : List ℕ) : Type 0 where
  pub places : length t ≡ length s
  pub cells : length y ≡ length x
  pub lines : (r i : ℕ) → r < m → i < r * J
      → get_or t (line_begins J r + i) 0 ≡ pick (ltb (i * m + r) p) (cell_in (length x) x (i * m + r)) (get_or s (line_begins J r + i) 0)
  pub past : (k : ℕ) → line_begins J m ≤ k → get_or t k 0 ≡ get_or s k 0
  pub sent : (q : ℕ) → q < length x → q < p → get_or y q 0 ≡ comes_out J m s x q
  pub rest : (q : ℕ) → q < length x → p ≤ q → get_or y q 0 ≡ get_or x q 0

-- a part of the way: from p cells gone in, with the store t and the cells y, to p' cells, with the store t' and the cells y'
abbrev pub Goes : ℕ → ℕ → ℕ → List ℕ → List ℕ → ℕ → List ℕ → List ℕ → Type 0
Goes J m p t y p' t' y' = (s x : List ℕ) → Gone J m s x p t y → Gone J m s x p' t' y'
