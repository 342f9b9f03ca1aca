-- Single-precision numbers by their 32 bits, over whole numbers (request 04): how near one comes to a whole coordinate over a root, and
-- whether one is the nearest to 1 over a root. Assumes nothing.
use Rattle.std.specs.Prelude.{ℕ, ◌+◌, ◌-◌, ◌*◌, ◌/◌, ◌%◌, ◌^◌, Bool, true, false, ◌&&◌, not, eqb, leb, ltb, ℤ, pos, negsuc, nat_abs}
use Rattle.std.specs.Bool.{beq}
use Rattle.counting.specs.Search.{pick}

-- the 32 bits: the sign, 1 for minus, eight bits of exponent, 23 of fraction
abbrev pub minus : ℕ → Bool
minus b = leb (2 ^ 31) b

abbrev pub exponent : ℕ → ℕ
exponent b = b / 2 ^ 23 % 256

abbrev pub fraction : ℕ → ℕ
fraction b = b % 2 ^ 23

-- the absolute value as so many times 2^-149, where the exponent is not 255 (which says infinite, or no number)
abbrev pub units : ℕ → ℕ
units b = pick (eqb (exponent b) 0) (fraction b) ((2 ^ 23 + fraction b) * 2 ^ (exponent b - 1))

abbrev pub below0 : ℤ → Bool
below0 (pos a) = false
below0 (negsuc a) = true

-- y, of the bits b, is a number and has the sign of c (that of 0 is plus), and d y y differs from c c by at most c c / 2^21. As y is its
-- units times 2^-149, u is d y y and v is c c, both times 2^298; the differences are cut at 0, so the two tests are of |u - v|.
unfoldable pub near : ℕ → ℤ → ℕ → Bool
near d c b =
    let u = d * (units b * units b) in
    let v = nat_abs c * nat_abs c * 2 ^ 298 in
    not (eqb (exponent b) 255) && beq (minus b) (below0 c) && leb (2 ^ 21 * (u - v)) v && leb (2 ^ 21 * (v - u)) v

-- y, of the bits b, is a positive number and the one nearest to 1 / root d: that lies above the middle of y and the number before it, of
-- the bits b - 1, and below the middle of y and the number after it, of the bits b + 1. Squared, all sides times 4 d 2^298.
unfoldable pub nearest : ℕ → ℕ → Bool
nearest d b =
    let low = units (b - 1) + units b in
    let high = units b + units (b + 1) in
    not (eqb (exponent b) 255) && not (minus b) && ltb (d * (low * low)) (4 * 2 ^ 298) && ltb (4 * 2 ^ 298) (d * (high * high))
