-- What lists of limits and of marks allow on each subcarrier: the mark, or data up to the limit and filler where it is 0. Assumes nothing.
use Rattle.std.specs.Prelude.{ℕ, ◌%◌, Bool, ◌||◌, List, leb, eqb, get_or}
use Rattle.counting.specs.Search.{pick}
use Rattle.rules.specs.Device.{phases}
use Rattle.rules.specs.Frame.{placeholder, filler}

-- the cell x is what the limit and the mark m allow
unfoldable pub allowed : ℕ → ℕ → ℕ → Bool
allowed limit m x = pick (eqb m 0) (leb x limit || eqb x filler) (eqb x m)

-- the same of subcarrier k
unfoldable pub allowed_at : List ℕ → List ℕ → List ℕ → ℕ → Bool
allowed_at limits m y k = allowed (get_or limits k 0) (get_or m k 0) (get_or y k 0)

-- the mark m where the scattered pattern stands: a placeholder on a subcarrier with a rank
unfoldable pub scattered_mark : ℕ → ℕ
scattered_mark m = pick (eqb m 0) placeholder m

-- the mark of subcarrier k with the scattered pilots, which stand on the subcarriers that are base modulo 128
unfoldable pub expected : ℕ → List ℕ → ℕ → ℕ
expected base m k = pick (eqb (k % phases) base) (scattered_mark (get_or m k 0)) (get_or m k 0)
