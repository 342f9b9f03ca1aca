-- Ranges noted at their first numbers: for each first number the farthest end. Assumes nothing.
use Rattle.std.specs.Prelude.{◌≡◌, Bool, ◌&&◌, ◌||◌, ◌⊎◌, List, ℕ, zero, suc, ◌+◌, ◌*◌, ◌<◌, ◌≤◌, max, leb, ltb, length, get_or, set}

-- a range f to e - 1 noted
unfoldable pub noted : List ℕ → ℕ → ℕ → List ℕ
noted r f e = set r f (max (get_or r f 0) e)

-- the farthest end of what begins below n
unfoldable pub far : List ℕ → ℕ → ℕ
far r zero = 0
far r (suc n) = max (far r n) (get_or r n 0)

-- k is in a noted range
unfoldable pub hit : List ℕ → ℕ → Bool
hit r k = ltb k (far r (suc k))

-- a table of ends: each is 0 or past its first number, and none is past size
pub record Table (r : List ℕ) (size : ℕ) : Type 0 where
  pub long : size ≤ length r
  pub past : (k : ℕ) → (get_or r k 0 ≡ 0) ⊎ (k < get_or r k 0)
  pub fits : (k : ℕ) → get_or r k 0 ≤ size

-- flags of blocks of 16: a block without its flag has no range that begins in it
pub record Flags (r hot : List ℕ) : Type 0 where
  pub many : length hot ≡ 256
  pub idle : (b : ℕ) → get_or hot b 0 ≡ 0 → (k : ℕ) → 16 * b ≤ k → k < 16 * b + 16 → get_or r k 0 ≡ 0

-- the range low to end - 1 noted, if the test holds
pub record NotedIf (t : Bool) (size low end : ℕ) (old reach hot : List ℕ) : Type 0 where
  pub table : Table reach size
  pub flags : Flags reach hot
  pub hits : (k : ℕ) → k < size → hit reach k ≡ (hit old k || (t && (leb low k && ltb k end)))
