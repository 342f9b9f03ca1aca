-- A record as it is read, beside an entry of the definitions; and the finding of a ground of 2 to 5 in it. Assumes nothing.
use Rattle.std.specs.Prelude.{ℕ, ◌<◌, Option, Some, None, Ok}
use Rattle.rules.specs.Refusals.{Finding, refused_by}
use Rattle.rules.specs.Plan.{Entry}
use Rattle.records.specs.declared.Record.{Record}

-- a record as read, as an entry of the definitions
abbrev pub entry_of : Record → Entry
entry_of e = record { index = e.index; kind = e.kind; blank = e.blank; next = e.next; low = e.low; high = e.high }

-- the index and the numbers of an entry are of two bytes
pub record Narrow (e : Entry) : Type 0 where
  pub index : e.index < 65536
  pub low : e.low < 65536
  pub high : e.high < 65536

-- a ground of 2 to 5 at record i, if there is one
abbrev pub found_at : Option ℕ → ℕ → Finding
found_at None i = Ok tt
found_at (Some g) i = refused_by g i
