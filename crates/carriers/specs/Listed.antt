-- What stands in the list of the ranked subcarriers while the marks are read. Assumes nothing.
use Rattle.std.specs.Prelude.{ℕ, ◌≤◌, ◌<◌, ◌≡◌, List, get_or}
use Rattle.counting.specs.Search.{count, select, is_zero}

-- the n subcarriers below k whose mark is 0 stand first in the list, as they will among those below any w
pub record Listed (mark : List ℕ) (k n : ℕ) (car : List ℕ) : Type 0 where
  pub number : n ≡ count (is_zero mark) k
  pub listed : (w i : ℕ) → k ≤ w → i < n → get_or car i 0 ≡ select (is_zero mark) w i
