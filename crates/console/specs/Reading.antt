-- How many bytes reading put where. Assumes nothing.
use Rattle.std.specs.Prelude.{ℕ, ◌+◌, ◌≤◌, ◌<◌, ◌≡◌, List, length, take, drop, Option, Some, None}
use Rattle.std.specs.Io.KnownBytes.{Consumes, IsAtEnd}
use Rattle.io.specs.Counts.{IsPrefixLen}

-- what reading gave: so many bytes, or nothing, as a read failed
abbrev pub Input : Type 0
Input = Option ℕ

-- what was read stands at the start of the bytes
abbrev pub Holds : Input → List ℕ → Type 0
Holds (Some n) bytes = IsPrefixLen n bytes
Holds None bytes = Unit {0}

-- what was read stands among the bytes from a place on
abbrev pub HoldsFrom : ℕ → Input → List ℕ → Type 0
HoldsFrom from (Some n) bytes = from + n ≤ length bytes
HoldsFrom from None bytes = Unit {0}

-- what was read stands at the start of the bytes: it was next in the reader, and is not in it any more. Where there was room for more, the
-- reader has ended
abbrev pub Takes : Option (List ℕ) → Option (List ℕ) → Input → List ℕ → Type 0
Takes old new (Some n) bytes = Consumes old new (take n bytes) × (n < length bytes → IsAtEnd new)
Takes old new None bytes = Unit {0}

-- the same from a place on; only a read of nothing says that the reader has ended
abbrev pub TakesFrom : Option (List ℕ) → Option (List ℕ) → ℕ → Input → List ℕ → Type 0
TakesFrom old new from (Some n) bytes = Consumes old new (take n (drop from bytes)) × (n ≡ 0 → from < length bytes → IsAtEnd new)
TakesFrom old new from None bytes = Unit {0}
