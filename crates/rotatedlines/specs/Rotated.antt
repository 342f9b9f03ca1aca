-- Places that take other cells, and lines rotated by J places, so that the oldest cell stands first again. Assumes nothing.
use Rattle.std.specs.Prelude.{ℕ, ◌+◌, ◌-◌, ◌*◌, ◌≤◌, ◌<◌, ◌≡◌, List, ltb, length, get_or}
use Rattle.counting.specs.Search.{pick}
use Rattle.figure.specs.Figure.{line_begins}

-- the place from which place i of a line of so many cells takes its cell as the line is rotated by J places
unfoldable pub rotated_from : ℕ → ℕ → ℕ → ℕ
rotated_from len J i = pick (ltb (i + J) len) (i + J) (i + J - len)

-- the cells s with f 0, f 1, .. in the n places from `at` on are t
pub record Replaced (at n : ℕ) (f : ℕ → ℕ) (s t : List ℕ) : Type 0 where
  pub places : length t ≡ length s
  pub put : (i : ℕ) → i < n → get_or t (at + i) 0 ≡ f i
  pub before : (k : ℕ) → k < at → get_or t k 0 ≡ get_or s k 0
  pub past : (k : ℕ) → at + n ≤ k → get_or t k 0 ≡ get_or s k 0

-- the store s with the line of so many cells from `at` on rotated by J places is t
pub record LineRotated (at len J : ℕ) (s t : List ℕ) : Type 0 where
  pub places : length t ≡ length s
  pub rotated : (i : ℕ) → i < len → get_or t (at + i) 0 ≡ get_or s (at + rotated_from len J i) 0
  pub before : (k : ℕ) → k < at → get_or t k 0 ≡ get_or s k 0
  pub past : (k : ℕ) → at + len ≤ k → get_or t k 0 ≡ get_or s k 0

-- the store s with each of its first m lines rotated by J places is t
pub record LinesRotated (J m : ℕ) (s t : List ℕ) : Type 0 where
  pub places : length t ≡ length s
  pub rotated : (r i : ℕ) → r < m → i < r * J → get_or t (line_begins J r + i) 0 ≡ get_or s (line_begins J r + rotated_from (r * J) J i) 0
  pub past : (k : ℕ) → line_begins J m ≤ k → get_or t k 0 ≡ get_or s k 0
