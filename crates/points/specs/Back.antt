-- The way back from a point, by arithmetic. The promise of `values::value_of` does not speak of it: it asks for the value that makes the
-- point, and proofs/BackLaws shows that this is the one. Assumes nothing.
use Rattle.std.specs.Prelude.{ℕ, suc, ◌+◌, ◌-◌, ◌*◌, ◌/◌, ◌%◌, ◌^◌, Bool, ◌&&◌, ◌||◌, eqb, ltb, nat_abs}
use Rattle.counting.specs.Search.{pick}
use Rattle.points.specs.declared.Point.{Point}
use Rattle.gray.specs.Gray.{signed}
use Rattle.points.specs.Points.{at}
use Rattle.gray.specs.Positions.{is_gray, bits_of}

-- ---- 2n bits

unfoldable pub in_square : ℕ → Point → Bool
in_square n p = is_gray n p.x && is_gray n p.y

unfoldable pub unsquare : ℕ → Point → ℕ
unsquare n p = bits_of n p.y * 2 ^ n + bits_of n p.x

-- ---- 2n + 1 bits, with s = 2^(n-1)

-- a square of 3s on each side less its four corners
unfoldable pub in_cross : ℕ → Point → Bool
in_cross s p =
    eqb (nat_abs p.x % 2) 1 && eqb (nat_abs p.y % 2) 1 && ltb (nat_abs p.x) (3 * s) && ltb (nat_abs p.y) (3 * s)
    && (ltb (nat_abs p.x) (2 * s) || ltb (nat_abs p.y) (2 * s))

-- the rectangle's point that the cross rule moves here, case by case
abbrev pub unmoved_outer : ℕ → Point → Point
unmoved_outer s p = at (signed p.x (nat_abs p.x + 2 * s)) (signed p.y (4 * s - nat_abs p.y))

abbrev pub unmoved_inner : ℕ → Point → Point
unmoved_inner s p = at (signed p.x (4 * s - nat_abs p.x)) (signed p.y (nat_abs p.y - 2 * s))

unfoldable pub uncross : ℕ → Point → Point
uncross s p = pick (ltb (nat_abs p.y) (2 * s)) p (pick (ltb s (nat_abs p.x)) (unmoved_outer s p) (unmoved_inner s p))

unfoldable pub unrectangle : ℕ → Point → ℕ
unrectangle n r = bits_of (suc n) r.x * 2 ^ n + bits_of n r.y

-- ---- m bits

unfoldable pub inside : ℕ → Point → Bool
inside m p =
    pick (eqb m 1) (is_gray 1 p.x && eqb (nat_abs p.y) 0)
    (pick (eqb (m % 2) 0) (in_square (m / 2) p) (in_cross (2 ^ (m / 2 - 1)) p))

unfoldable pub back : ℕ → Point → ℕ
back m p =
    pick (eqb m 1) (bits_of 1 p.x)
    (pick (eqb (m % 2) 0) (unsquare (m / 2) p) (unrectangle (m / 2) (uncross (2 ^ (m / 2 - 1)) p)))
