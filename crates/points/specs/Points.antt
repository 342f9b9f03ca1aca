-- The whole-number point of a value (source document 000, 1.1.2 to 1.1.4, with request 04). Assumes nothing.
use Rattle.std.specs.Prelude.{ℕ, suc, ◌+◌, ◌-◌, ◌*◌, ◌/◌, ◌%◌, ◌^◌, Bool, ◌&&◌, ◌||◌, eqb, ltb, leb, ℤ, pos, nat_abs}
use Rattle.counting.specs.Search.{pick}
use Rattle.points.specs.declared.Point.{Point}
use Rattle.gray.specs.Gray.{gray, signed}

abbrev pub at : ℤ → ℤ → Point
at x y = record { x = x; y = y }

-- 1.1.3: 2n bits; the lower half makes the first coordinate, the upper half the second
unfoldable pub even_point : ℕ → ℕ → Point
even_point n v = at (gray n (v % 2 ^ n)) (gray n (v / 2 ^ n))

-- 1.1.3.1, the cross rule with s = 2^(n-1): a rectangle's points that lie far out on the first axis move above or below it. Where |q| > s:
abbrev pub moved_outer : ℕ → ℤ → ℤ → Point
moved_outer s i q = at (signed i (nat_abs i - 2 * s)) (signed q (4 * s - nat_abs q))

-- where |q| is at most s:
abbrev pub moved_inner : ℕ → ℤ → ℤ → Point
moved_inner s i q = at (signed i (4 * s - nat_abs i)) (signed q (nat_abs q + 2 * s))

-- the others stay
unfoldable pub cross : ℕ → ℤ → ℤ → Point
cross s i q = pick (ltb (nat_abs i) (3 * s)) (at i q) (pick (ltb s (nat_abs q)) (moved_outer s i q) (moved_inner s i q))

-- 1.1.4: 2n + 1 bits; of the rectangle, the upper n + 1 make the first coordinate, the lower n the second
unfoldable pub odd_point : ℕ → ℕ → Point
odd_point n v = cross (2 ^ (n - 1)) (gray (suc n) (v / 2 ^ n)) (gray n (v % 2 ^ n))

-- the point of a value of m bits; load 1 (1.1.2) has second coordinate 0
unfoldable pub point_of : ℕ → ℕ → Point
point_of m v =
    pick (eqb m 1) (at (gray 1 v) (pos 0))
    (pick (eqb (m % 2) 0) (even_point (m / 2) v) (odd_point (m / 2) v))

-- the loads of request 04: 1, 2, 4 and 6 to 14
unfoldable pub load_listed : ℕ → Bool
load_listed m = eqb m 1 || eqb m 2 || eqb m 4 || (leb 6 m && leb m 14)

-- the ends of a coordinate's range are this and minus this (proofs/Ends); the second coordinate of load 1 is 0
unfoldable pub furthest : ℕ → ℕ
furthest m = pick (eqb m 1) 1 (pick (eqb (m % 2) 0) (2 ^ (m / 2) - 1) (3 * 2 ^ (m / 2 - 1) - 1))
