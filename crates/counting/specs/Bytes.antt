-- Lists of bytes. Assumes nothing.
use Rattle.std.specs.Prelude.{ℕ, ◌<◌, List, length, get_or}

-- every number of a list is a byte's
abbrev pub Octets : List ℕ → Type 0
Octets b = (i : ℕ) → i < length b → get_or b i 0 < 256
