-- The data of linkcheck's input symbols (docs/LINKCHECK.md, "What is tried"). Assumes nothing.
use Rattle.std.specs.Prelude.{ℕ, ◌+◌, ◌*◌, ◌%◌, Bool, not, ◌||◌, List, leb, ltb, eqb, get_or, unwrap_or}
use Rattle.counting.specs.Search.{pick, lowest}

-- input t is a flush
abbrev pub is_flush : ℕ → Bool
is_flush t = eqb (t % 3) 2

-- the number from which the data of input t is made, in the run that starts at phase s
abbrev pub seed_of : ℕ → ℕ → ℕ
seed_of s t = (s * 131 + t) * 4099 % 2147483647

-- data cell c of that number, up to the limit of the cell; positions count modulo 65536
abbrev pub data_cell : ℕ → List ℕ → ℕ → ℕ
data_cell seed limits c = (seed + c % 65536) * 48271 % 2147483647 % (get_or limits c 0 + 1)

-- what stands in cell c of the data buffer when the first n cells of input t have come out: 43981 stood there before, 32769 is filler
abbrev pub wanted_at : ℕ → ℕ → ℕ → List ℕ → ℕ → ℕ
wanted_at s t n limits c = pick (leb n c) 43981 (pick (is_flush t) 32769 (data_cell (seed_of s t) limits c))

-- something else stands there
abbrev pub is_other : ℕ → ℕ → ℕ → List ℕ → List ℕ → ℕ → Bool
is_other s t n limits cells c = not (eqb (get_or cells c 0) (wanted_at s t n limits c))

-- a cell is a scattered placeholder
abbrev pub is_placeholder : ℕ → Bool
is_placeholder cell = eqb cell 32768

-- a cell is data, of whatever load, or filler
abbrev pub is_data : ℕ → Bool
is_data cell = eqb cell 32769 || ltb cell 16384

-- the lowest place below n that passes, n where none does
abbrev pub first_of : (ℕ → Bool) → ℕ → ℕ
first_of p n = unwrap_or (lowest p n) n
