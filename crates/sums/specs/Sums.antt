-- The checksum of a list of numbers: a polynomial modulo a prime, so that their order counts. Assumes nothing.
use Rattle.std.specs.Prelude.{ℕ, ◌+◌, ◌*◌, ◌%◌, List, [], ◌∷◌, Float}
use Rattle.std.specs.Float.{binary32}
use Rattle.std.specs.Float.Ieee.{to_bits}

-- the checksum with one number more; the modulus is the prime 2^31 - 1
abbrev pub mix : ℕ → ℕ → ℕ
mix sum x = (sum * 48271 + x) % 2147483647

-- the checksum with the numbers of a list more, in their order
abbrev pub mix_all : ℕ → List ℕ → ℕ
mix_all sum [] = sum
mix_all sum (x ∷ xs) = mix_all (mix sum x) xs

-- the 32 bits of each of these numbers in single precision
abbrev pub patterns : List Float → List ℕ
patterns [] = []
patterns (y ∷ ys) = to_bits binary32 y ∷ patterns ys
