-- The records of a copy that also excludes a range (document 02, Req 05), as entries. Assumes nothing.
use Rattle.std.specs.Prelude.{ℕ, Bool, ◌&&◌, leb}
use Rattle.rules.specs.Plan.{Entry}

-- k is one of the range from first to last, both included
abbrev pub within : ℕ → ℕ → ℕ → Bool
within first last k = leb first k && leb k last

-- the new record, with its index
abbrev pub range_entry : ℕ → ℕ → ℕ → Entry
range_entry i first last = record { index = i; kind = 2; blank = 0; next = 0; low = first; high = last }

-- an entry with another next index
abbrev pub linked : ℕ → Entry → Entry
linked n e = record { index = e.index; kind = e.kind; blank = e.blank; next = n; low = e.low; high = e.high }

-- an entry without its next index
abbrev pub unlinked : Entry → Entry
unlinked e = linked 0 e
