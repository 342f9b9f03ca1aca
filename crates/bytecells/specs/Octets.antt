-- Cells as bytes: a cell is two bytes, high byte first (request 01). Assumes nothing.
use Rattle.std.specs.Prelude.{ℕ, ◌+◌, ◌*◌, ◌/◌, ◌%◌, ◌≡◌, Bool, List, [], ◌∷◌, eqb, length}

-- the cells of a list of bytes, two bytes each; the last byte of an odd number is no cell
unfoldable pub cells_of : List ℕ → List ℕ
cells_of [] = []
cells_of (high ∷ []) = []
cells_of (high ∷ low ∷ b) = (high * 256 + low) ∷ cells_of b

-- the bytes of a list of cells
unfoldable pub bytes_of : List ℕ → List ℕ
bytes_of [] = []
bytes_of (x ∷ c) = (x / 256) ∷ (x % 256) ∷ bytes_of c

-- a buffer of odd length
unfoldable pub odd : List ℕ → Bool
odd b = eqb (length b % 2) 1

-- the bytes of whole cells: what reads as cells and is written again is the same
abbrev pub Whole : List ℕ → Type 0
Whole b = bytes_of (cells_of b) ≡ b
