-- A Gray value by its position among those of as many bits: how many steps of 2 it stands below the highest. What the code works
-- with; the entries' promises do not speak of it. Assumes nothing.
use Rattle.std.specs.Prelude.{ℕ, zero, suc, ◌+◌, ◌-◌, ◌*◌, ◌/◌, ◌%◌, ◌^◌, eqb, ltb, leb, Bool, ◌&&◌, ℤ, pos, negsuc, nat_abs}
use Rattle.counting.specs.Search.{bit, pick}

-- the mirror image of p among the positions of m bits
abbrev pub mirrored : ℕ → ℕ → ℕ
mirrored m p = 2 ^ m - 1 - p

-- the position of Gray_m x
unfoldable pub position : ℕ → ℕ → ℕ
position zero x = 0
position (suc m) x = pick (eqb (x % 2) 0) (position m (x / 2)) (mirrored (suc m) (position m (x / 2)))

-- the value at a position of m bits: a whole number with a sign
unfoldable pub value_at : ℕ → ℕ → ℤ
value_at m p = pick (ltb (2 * p) (2 ^ m)) (pos (2 ^ m - 1 - 2 * p)) (negsuc (2 * p - 2 ^ m))

-- the m bits whose Gray value stands at a position
unfoldable pub bits_at : ℕ → ℕ → ℕ
bits_at zero p = 0
bits_at (suc m) p = 2 * bits_at m (pick (ltb p (2 ^ m)) p (mirrored (suc m) p)) + bit (leb (2 ^ m) p)

-- the position among k bits more of bits that stand at p, where the bits above are 0
abbrev pub widened : ℕ → ℕ → ℕ
widened k p = pick (eqb (p % 2) 0) (p * 2 ^ k) ((p + 1) * 2 ^ k - 1)

-- c is the Gray value of some m bits, m at least 1: odd, and no further out than the ends
unfoldable pub is_gray : ℕ → ℤ → Bool
is_gray m c = eqb (nat_abs c % 2) 1 && ltb (nat_abs c) (2 ^ m)

-- its position
abbrev pub position_of : ℕ → ℤ → ℕ
position_of m (pos a) = (2 ^ m - 1 - a) / 2
position_of m (negsuc a) = (2 ^ m + a) / 2

-- its bits
unfoldable pub bits_of : ℕ → ℤ → ℕ
bits_of m c = bits_at m (position_of m c)
