-- A list after so many stores, one after the other. Assumes nothing.
use Rattle.std.specs.Prelude.{ℕ, zero, suc, List, set}

-- l after n stores, the r-th of which puts v r at the place at r
unfoldable pub stores : (ℕ → ℕ) → (ℕ → ℕ) → ℕ → List ℕ → List ℕ
stores at v zero l = l
stores at v (suc n) l = set (stores at v n l) (at n) (v n)
