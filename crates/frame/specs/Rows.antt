-- The rank of a cell under the house rule in closed form. Assumes nothing.
use Rattle.std.specs.Prelude.{ℕ, ◌+◌, ◌%◌, ◌/◌, ◌^◌, eqb}
use Rattle.counting.specs.Search.{sum, count}
use Rattle.rules.specs.Frame.{reversed}

-- how many cells below n stand in row r of so many rows
unfoldable pub row_length : ℕ → ℕ → ℕ → ℕ
row_length rows n r = count (λ q. eqb (q % rows) r) n

-- the cells of the first i rows read: the i-th row read is i with its b bits reversed
unfoldable pub rows_before : ℕ → ℕ → ℕ → ℕ
rows_before b n i = sum (λ i. row_length (2 ^ b) n (reversed b i)) i

-- the rank of cell p of n: the rows read before its own, and its column
unfoldable pub house_rank : ℕ → ℕ → ℕ → ℕ
house_rank b n p = rows_before b n (reversed b (p % 2 ^ b)) + p / 2 ^ b
