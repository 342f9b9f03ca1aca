-- The Gray values of source document 000, 1.2.1, as whole numbers with a sign. Assumes nothing.
use Rattle.std.specs.Prelude.{ℕ, zero, suc, ◌/◌, ◌%◌, ◌^◌, eqb, ℤ, pos, negsuc, neg_ℤ, ◌+ℤ◌}
use Rattle.counting.specs.Search.{pick}

-- (1 - 2 b) c, for a bit b: c, or -c where b is 1
abbrev pub times_sign : ℕ → ℤ → ℤ
times_sign b c = pick (eqb b 0) c (neg_ℤ c)

-- Gray_m of the m lowest bits of x: (1 - 2 x0) (2^(m-1) + Gray_(m-1) of the bits above x0).
-- No bits have the value 0, so that Gray_1 is 1 at 0 and -1 at 1, as the document says (proofs/GrayLaws, `gray_one`).
unfoldable pub gray : ℕ → ℕ → ℤ
gray zero x = pos 0
gray (suc m) x = times_sign (x % 2) (pos (2 ^ m) +ℤ gray m (x / 2))

-- sign(c) m, where the sign is 1 from 0 up and -1 below
abbrev pub signed : ℤ → ℕ → ℤ
signed (pos a) m = pos m
signed (negsuc a) m = neg_ℤ (pos m)
