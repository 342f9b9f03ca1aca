-- Every factor is the nearest, by one test that antt computes over the tables of roots and factors; and every scaled coordinate is near, by
-- one over the tables and the coordinates. Assumes nothing.
use Prim.Native.Nat.{ℕ, zero, suc, ◌^◌, ◌<◌, ◌≤◌}
use mathlib.Core.Path.{◌≡◌, refl}
use mathlib.Core.Bool.{Bool, true, false, ◌&&◌}
use native.Mathlib.Nat.{le_of_suc-le-suc}
use native.Mathlib.Omega.{arith}
use lib.Dec.{T, le→leb, lt→ltb}
use lib.IntN.{ℤ, pos, negsuc, nat_abs}
use lib.Ieee.{binary32, mul, of_int, of_bits, to_bits, in_float}
use lib.Ieee.Fits.{and_l, and_r}
use Rattle.gray.proofs.Computed.{up_to, below}
use Rattle.points.specs.Roots.{root}
use Rattle.scaling.specs.Single.{near, nearest}
use Rattle.scaling.specs.Scale.{factor, scaled}

pub holds : (b : Bool) → T b → b ≡ true
holds true t = refl
holds false t = absurd t

-- ---- the factors

unfoldable nearest_at : ℕ → Bool
nearest_at k = nearest (root (suc k)) (to_bits binary32 (factor (suc k)))

-- both tables, all fourteen loads
factors_nearest : T (up_to nearest_at 14)
unfolding nearest_at nearest of_bits to_bits
factors_nearest = tt

pub all_nearest : (m : ℕ) → 1 ≤ m → m ≤ 14 → nearest (root m) (to_bits binary32 (factor m)) ≡ true
unfolding nearest_at
all_nearest zero l h = absurd (omega arith)
all_nearest (suc k) l h = holds (nearest_at k) (below nearest_at 14 factors_nearest k h)

-- ---- the coordinates

unfoldable good : ℕ → ℤ → Bool
good k c = near (root (suc k)) c (to_bits binary32 (scaled (suc k) c))

-- the coordinates -127 to 127 of the load k + 1
abbrev row : ℕ → Bool
row k = up_to (λ n. good k (pos n)) 128 && up_to (λ n. good k (negsuc n)) 127

sweep : T (up_to row 14)
unfolding good near scaled mul of_int of_bits to_bits
sweep = tt

from_pos : (k n : ℕ) → k < 14 → n < 128 → T (good k (pos n))
from_pos k n h g = below (λ n. good k (pos n)) 128 (and_l (up_to (λ n. good k (pos n)) 128) (up_to (λ n. good k (negsuc n)) 127) (below row 14 sweep k h)) n g

from_neg : (k n : ℕ) → k < 14 → n < 127 → T (good k (negsuc n))
from_neg k n h g = below (λ n. good k (negsuc n)) 127 (and_r (up_to (λ n. good k (pos n)) 128) (up_to (λ n. good k (negsuc n)) 127) (below row 14 sweep k h)) n g

each : (k : ℕ) (c : ℤ) → k < 14 → nat_abs c < 128 → T (good k c)
each k (pos n) h g = from_pos k n h g
each k (negsuc n) h g = from_neg k n h (le_of_suc-le-suc g)

pub all_near : (m : ℕ) (c : ℤ) → 1 ≤ m → m ≤ 14 → nat_abs c < 128 → near (root m) c (to_bits binary32 (scaled m c)) ≡ true
unfolding good
all_near zero c l h g = absurd (omega arith)
all_near (suc k) c l h g = holds (good k c) (each k c h g)

-- every such coordinate is one that a single holds exactly
pub counts : (c : ℤ) → nat_abs c < 128 → T (in_float binary32 c)
unfolding in_float
counts (pos n) h = le→leb n (2 ^ 24) (omega arith)
counts (negsuc n) h = lt→ltb n (2 ^ 24) (omega arith)
