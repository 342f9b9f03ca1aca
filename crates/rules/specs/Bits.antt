-- Numbers as bits, least significant first; the bits of cells, each with a load of its own, one cell after the other; and a bit stream in
-- bytes, which are cells of load 8 (request 07: "first bit least significant in the cell and in the byte"). Assumes nothing.
use Rattle.std.specs.Prelude.{ℕ, zero, suc, ◌+◌, ◌*◌, ◌-◌, ◌%◌, ◌/◌, Bool, List, [], ◌∷◌, ◌++◌, eqb, length, take, drop, replicate}
use Rattle.std.proofs.lemmas.List.Edits.{sets}
use Rattle.counting.specs.Search.{bit}

-- the l lowest bits of x
unfoldable pub digits : ℕ → ℕ → List Bool
digits zero x = []
digits (suc l) x = eqb (x % 2) 1 ∷ digits l (x / 2)

-- the number that bits make
unfoldable pub value : List Bool → ℕ
value [] = 0
value (b ∷ bs) = bit b + 2 * value bs

-- what loads add up to
unfoldable pub total : List ℕ → ℕ
total [] = 0
total (l ∷ ls) = l + total ls

-- the bits of the cells xs, which have the loads ls; a cell of load 0 carries none
unfoldable pub cell_bits : List ℕ → List ℕ → List Bool
cell_bits [] xs = []
cell_bits (l ∷ ls) [] = []
cell_bits (l ∷ ls) (x ∷ xs) = digits l x ++ cell_bits ls xs

-- cells of the loads ls, filled from the bits bs; a cell of load 0 is filled with 0
unfoldable pub cells_from : List ℕ → List Bool → List ℕ
cells_from [] bs = []
cells_from (l ∷ ls) bs = value (take l bs) ∷ cells_from ls (drop l bs)

-- the bits of a stream in bytes
unfoldable pub stream_bits : List ℕ → List Bool
stream_bits bytes = cell_bits (replicate (length bytes) 8) bytes

-- n bytes of a stream of bits
unfoldable pub bytes_from : ℕ → List Bool → List ℕ
bytes_from n bs = cells_from (replicate n 8) bs

-- the bits of a stream in bytes from bit a up to bit e
unfoldable pub bits_between : List ℕ → ℕ → ℕ → List Bool
bits_between bytes a e = take (e - a) (drop a (stream_bits bytes))

-- the bytes with the bits bs from bit a on; other bits untouched
unfoldable pub with_bits : List ℕ → ℕ → List Bool → List ℕ
with_bits bytes a bs = bytes_from (length bytes) (sets (stream_bits bytes) a bs)

-- cells of the loads ls, filled from a stream in bytes, starting at bit a
unfoldable pub filled_from : List ℕ → List ℕ → ℕ → List ℕ
filled_from ls bytes a = cells_from ls (drop a (stream_bits bytes))

-- the way back: the bytes with the bits of the cells xs from bit a on
unfoldable pub unfilled_into : List ℕ → List ℕ → List ℕ → ℕ → List ℕ
unfilled_into ls xs bytes a = with_bits bytes a (cell_bits ls xs)
