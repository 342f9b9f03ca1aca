-- A copy of a plan that also excludes a range (document 02, Req 05: "In the copy the last chain record points at a new last record, of kind
-- 2, with that range and next index zero"). Assumes nothing.
use Rattle.std.specs.Prelude.{ℕ, ◌+◌, ◌*◌, ◌/◌, ◌%◌, List, [], ◌∷◌, ◌++◌, length}
use Rattle.std.proofs.lemmas.List.Edits.{sets}
use Rattle.chains.specs.Last.{last_index}

-- a plan has at most so many bytes (document 01, ground 1), whatever its device
abbrev pub plan_max : ℕ
plan_max = 4096

-- the bytes of the longest copy: those of the longest plan, and 8 of the new record
abbrev pub copy_max : ℕ
copy_max = plan_max + 8

-- a two-byte number, high byte first (document 01, "The plan on paper")
abbrev pub two_bytes : ℕ → List ℕ
two_bytes n = n / 256 ∷ n % 256 ∷ []

-- the new record: of kind 2, byte 1 zero, next index zero, with that range
unfoldable pub range_record : ℕ → ℕ → List ℕ
range_record first last = 2 ∷ 0 ∷ 0 ∷ 0 ∷ two_bytes first ++ two_bytes last

-- the copy: the next index of the last chain record, in its bytes 2 and 3, is the number of records, and the new record comes last
unfoldable pub copy_with : List ℕ → ℕ → ℕ → List ℕ
copy_with s first last = sets s (8 * last_index s + 2) (two_bytes (length s / 8)) ++ range_record first last
