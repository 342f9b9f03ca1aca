-- The list of the continuous pilots while the marks are read. Assumes nothing.
use Rattle.std.specs.Prelude.{ℕ, ◌≡◌, Bool, List, eqb, length, get_or}
use Rattle.counting.specs.Search.{those}
use Rattle.rules.specs.Roles.{continuous_mark}
use Rattle.pilots.specs.Pilots.{pilots_most, padded}

-- the mark of subcarrier k is the continuous one
unfoldable pub is_marked : List ℕ → ℕ → Bool
is_marked marks k = eqb (get_or marks k 0) continuous_mark

-- those below k
abbrev pub marked_below : List ℕ → ℕ → List ℕ
marked_below marks k = those (is_marked marks) 0 k

-- the n pilots below k are listed
pub record Listed (marks : List ℕ) (k n : ℕ) (list : List ℕ) : Type 0 where
  pub number : n ≡ length (marked_below marks k)
  pub listed : list ≡ padded pilots_most (marked_below marks k)
