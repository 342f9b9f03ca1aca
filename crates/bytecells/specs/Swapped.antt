-- Cells read low byte first, and their bytes swapped: what the loops of `read_cells` do. Assumes nothing.
use Rattle.std.specs.Prelude.{ℕ, ◌+◌, ◌*◌, ◌/◌, ◌%◌, List, get_or}

-- the number of bytes 2i and 2i + 1, low byte first
unfoldable pub low_first : List ℕ → ℕ → ℕ
low_first b i = get_or b (2 * i + 1) 0 * 256 + get_or b (2 * i) 0

-- the two bytes of a cell swapped
unfoldable pub swapped : ℕ → ℕ
swapped x = x % 256 * 256 + x / 256
