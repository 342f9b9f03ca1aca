-- The table of all scaled coordinates (request 04), in rows: one for load 1, one for each even load, four for each odd load from 7 on.
-- Assumes nothing.
use Rattle.std.specs.Prelude.{ℕ, suc, ◌+◌, ◌-◌, ◌*◌, ◌^◌, ◌<◌, ◌≡◌, List, ℤ, pos, length, get_or, Float}
use Rattle.std.specs.Float.{nan, binary32}
use Rattle.std.specs.Float.Ieee.{mul, of_int}
use Rattle.gray.specs.Gray.{gray}
use Rattle.points.specs.Points.{cross}
use Rattle.scaling.specs.Scale.{scaled}

-- the Gray values of fewer than k bits: those of n bits stand from number 2^n on
abbrev pub GrayRows : ℕ → List ℤ → Type 0
GrayRows k w = (n : ℕ) → n < k → (i : ℕ) → i < 2 ^ n → get_or w (2 ^ n + i) (pos 0) ≡ gray n i

-- a whole coordinate times a factor
abbrev pub times : Float → ℤ → Float
times f c = mul binary32 (of_int binary32 c) f

-- the n numbers of the table from number `at` on
abbrev pub Row : List Float → ℕ → ℕ → (ℕ → Float) → Type 0
Row t at n f = (i : ℕ) → i < n → get_or t (at + i) nan ≡ f i

-- a row has been written into the table t: what stands below it is as before
pub record Written (t : List Float) (at n : ℕ) (f : ℕ → Float) (y : List Float) : Type 0 where
  pub long : length y ≡ length t
  pub below : (i : ℕ) → i < at → get_or y i nan ≡ get_or t i nan
  pub row : Row y at n f

-- the rows of load 2n + 1 begin here: 256 numbers of upper bits, which make the first coordinate, then 256 of lower bits, which make the second
abbrev pub start : ℕ → ℕ
start n = 512 * n - 1280

-- The rows of 2n + 1 bits, with s = 2^(n-1) of the cross rule. The first coordinate depends on the lower bits only by whether the rectangle's second
-- coordinate lies past s, and the second on the upper bits only by whether the rectangle's first lies past 3s (proofs/Sides): a row for either.
pub record OddRows (n s : ℕ) (t : List Float) : Type 0 where
  pub past : Row t (start n) (2 ^ suc n) (λ h. scaled (2 * n + 1) (cross s (gray (suc n) h) (pos (2 * s - 1))).x)
  pub within : Row t (start n + 128) (2 ^ suc n) (λ h. scaled (2 * n + 1) (cross s (gray (suc n) h) (pos 1)).x)
  pub staying : Row t (start n + 256) (2 ^ n) (λ l. scaled (2 * n + 1) (cross s (pos 1) (gray n l)).y)
  pub moving : Row t (start n + 384) (2 ^ n) (λ l. scaled (2 * n + 1) (cross s (pos (4 * s - 1)) (gray n l)).y)

-- how many numbers the table has
abbrev pub entries : ℕ
entries = 2304

-- the rows of load 1, of the loads 2n for n below e, and of the loads 2n + 1 for n below o
pub record Rows (e o : ℕ) (t : List Float) : Type 0 where
  pub long : length t ≡ entries
  pub one : Row t 0 2 (λ i. scaled 1 (gray 1 i))
  pub even : (n : ℕ) → 0 < n → n < e → Row t (2 ^ n) (2 ^ n) (λ i. scaled (2 * n) (gray n i))
  pub odd : (n : ℕ) → 2 < n → n < o → OddRows n (2 ^ (n - 1)) t

-- all rows
abbrev pub Filled : List Float → Type 0
Filled t = Rows 8 7 t
