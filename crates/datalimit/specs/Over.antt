-- A number of the data that exceeds the limit of its load, by the flags of the placeholders and the subcarriers of the cells. Assumes nothing.
use Rattle.std.specs.Prelude.{ℕ, Bool, List, ltb, get_or}
use Rattle.counting.specs.Search.{select, is_zero}
use Rattle.rules.specs.Loads.{limit_at}

-- number i of the data ds exceeds the limit of its load: the profile w, the subcarriers kc of the cells, the flags of n cells
unfoldable pub over_at : List ℕ → List ℕ → List ℕ → ℕ → List ℕ → ℕ → Bool
over_at w kc flag n ds i = ltb (limit_at w (get_or kc (select (is_zero flag) n i) 0)) (get_or ds i 0)
