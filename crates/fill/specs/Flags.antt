-- Input symbols from flags, one for each cell: 0 for a data cell, another number for a placeholder. Assumes nothing.
use Rattle.std.specs.Prelude.{ℕ, zero, suc, ◌+◌, ◌<◌, ◌≡◌, Bool, true, ◌&&◌, List, length, get_or}
use Rattle.counting.specs.Search.{bit, pick, count, select, tabulate, is_zero}
use Rattle.rules.specs.Frame.{Frame, cells, held, placeholder, filler}

-- the k cells from cell p on are all data cells
unfoldable pub all_data : List ℕ → ℕ → ℕ → Bool
all_data flag p zero = true
all_data flag p (suc k) = all_data flag p k && is_zero flag (p + k)

-- cell p of the input symbol of the data ds
unfoldable pub data_cell : List ℕ → List ℕ → ℕ → ℕ
data_cell flag ds p = pick (is_zero flag p) (get_or ds (count (is_zero flag) p) 0) placeholder

-- cell p of the input symbol of a flush
unfoldable pub filler_cell : List ℕ → ℕ → ℕ
filler_cell flag p = pick (is_zero flag p) filler placeholder

-- the cells of the input symbol x whose flag is 0, in rising order
unfoldable pub taken_data : List ℕ → List ℕ → List ℕ
taken_data flag x = tabulate (λ c. get_or x (select (is_zero flag) (length x) c) 0) (count (is_zero flag) (length x))

-- the flags are those of the placeholders at phase j
abbrev pub Flagged : Frame → ℕ → List ℕ → Type 0
Flagged F j flag = (p : ℕ) → p < cells F → get_or flag p 0 ≡ bit (held F j p)
