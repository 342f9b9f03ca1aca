-- The ends of every listed load and points of it, as one table: the points of the values 0, 1 and the last, and from load 4 on those of
-- 2, 3, 2^n and 2^n + 2 (n half the load), so that each case of the cross rule is met with each sign. The numbers are those of the second
-- model (tests/pointtable.py). Proved in proofs/PointTable.antt. Assumes nothing.
use Rattle.std.specs.Prelude.{ℕ, ◌≡◌, List, [], ◌∷◌, map, ℤ, pos, neg_ℤ}
use Rattle.points.specs.declared.Point.{Point}
use Rattle.points.specs.Points.{at, point_of, furthest}

abbrev pub minus : ℕ → ℤ
minus c = neg_ℤ (pos c)

-- a load, its end, values, and their points
abbrev pub Row : ℕ → ℕ → List ℕ → List Point → Type 0
Row m end values points = (furthest m ≡ end) × (map (point_of m) values ≡ points)

abbrev pub PointTable : Type 0
PointTable =
    Row 1 1 (0 ∷ 1 ∷ [])
    (at (pos 1) (pos 0) ∷ at (minus 1) (pos 0) ∷ [])
    × Row 2 1 (0 ∷ 1 ∷ 2 ∷ 3 ∷ [])
    (at (pos 1) (pos 1) ∷ at (minus 1) (pos 1) ∷ at (pos 1) (minus 1) ∷ at (minus 1) (minus 1) ∷ [])
    × Row 4 3 (0 ∷ 1 ∷ 2 ∷ 3 ∷ 4 ∷ 6 ∷ 15 ∷ [])
    (at (pos 3) (pos 3) ∷ at (minus 3) (pos 3) ∷ at (pos 1) (pos 3) ∷ at (minus 1) (pos 3) ∷ at (pos 3) (minus 3) ∷ at (pos 1) (minus 3) ∷ at (minus 1) (minus 1) ∷ [])
    × Row 6 7 (0 ∷ 1 ∷ 2 ∷ 3 ∷ 8 ∷ 10 ∷ 63 ∷ [])
    (at (pos 7) (pos 7) ∷ at (minus 7) (pos 7) ∷ at (pos 1) (pos 7) ∷ at (minus 1) (pos 7) ∷ at (pos 7) (minus 7) ∷ at (pos 1) (minus 7) ∷ at (minus 3) (minus 3) ∷ [])
    × Row 7 11 (0 ∷ 1 ∷ 2 ∷ 3 ∷ 8 ∷ 10 ∷ 127 ∷ [])
    (at (pos 7) (pos 9) ∷ at (pos 7) (minus 9) ∷ at (pos 1) (pos 9) ∷ at (pos 1) (minus 9) ∷ at (minus 7) (pos 9) ∷ at (minus 1) (pos 9) ∷ at (minus 5) (minus 3) ∷ [])
    × Row 8 15 (0 ∷ 1 ∷ 2 ∷ 3 ∷ 16 ∷ 18 ∷ 255 ∷ [])
    (at (pos 15) (pos 15) ∷ at (minus 15) (pos 15) ∷ at (pos 1) (pos 15) ∷ at (minus 1) (pos 15) ∷ at (pos 15) (minus 15) ∷ at (pos 1) (minus 15) ∷ at (minus 5) (minus 5) ∷ [])
    × Row 9 23 (0 ∷ 1 ∷ 2 ∷ 3 ∷ 16 ∷ 18 ∷ 511 ∷ [])
    (at (pos 15) (pos 17) ∷ at (pos 15) (minus 17) ∷ at (pos 1) (pos 17) ∷ at (pos 1) (minus 17) ∷ at (minus 15) (pos 17) ∷ at (minus 1) (pos 17) ∷ at (minus 11) (minus 5) ∷ [])
    × Row 10 31 (0 ∷ 1 ∷ 2 ∷ 3 ∷ 32 ∷ 34 ∷ 1023 ∷ [])
    (at (pos 31) (pos 31) ∷ at (minus 31) (pos 31) ∷ at (pos 1) (pos 31) ∷ at (minus 1) (pos 31) ∷ at (pos 31) (minus 31) ∷ at (pos 1) (minus 31) ∷ at (minus 11) (minus 11) ∷ [])
    × Row 11 47 (0 ∷ 1 ∷ 2 ∷ 3 ∷ 32 ∷ 34 ∷ 2047 ∷ [])
    (at (pos 31) (pos 33) ∷ at (pos 31) (minus 33) ∷ at (pos 1) (pos 33) ∷ at (pos 1) (minus 33) ∷ at (minus 31) (pos 33) ∷ at (minus 1) (pos 33) ∷ at (minus 21) (minus 11) ∷ [])
    × Row 12 63 (0 ∷ 1 ∷ 2 ∷ 3 ∷ 64 ∷ 66 ∷ 4095 ∷ [])
    (at (pos 63) (pos 63) ∷ at (minus 63) (pos 63) ∷ at (pos 1) (pos 63) ∷ at (minus 1) (pos 63) ∷ at (pos 63) (minus 63) ∷ at (pos 1) (minus 63) ∷ at (minus 21) (minus 21) ∷ [])
    × Row 13 95 (0 ∷ 1 ∷ 2 ∷ 3 ∷ 64 ∷ 66 ∷ 8191 ∷ [])
    (at (pos 63) (pos 65) ∷ at (pos 63) (minus 65) ∷ at (pos 1) (pos 65) ∷ at (pos 1) (minus 65) ∷ at (minus 63) (pos 65) ∷ at (minus 1) (pos 65) ∷ at (minus 43) (minus 21) ∷ [])
    × Row 14 127 (0 ∷ 1 ∷ 2 ∷ 3 ∷ 128 ∷ 130 ∷ 16383 ∷ [])
    (at (pos 127) (pos 127) ∷ at (minus 127) (pos 127) ∷ at (pos 1) (pos 127) ∷ at (minus 1) (pos 127) ∷ at (pos 127) (minus 127) ∷ at (pos 1) (minus 127) ∷ at (minus 43) (minus 43) ∷ [])
