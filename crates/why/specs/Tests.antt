-- What a test of records says, which the search along the chain is given. Assumes nothing.
use Rattle.std.specs.Prelude.{◌≡◌, Bool}
use Rattle.rules.specs.Plan.{Entry}
use Rattle.records.specs.Read.{entry_of}
use Rattle.records.specs.declared.Record.{Record}

-- what the test answers of a record is what t says of it
abbrev pub Decides : (Record → Bool → Type 0) → (Entry → Bool) → Type 0
Decides answers t = (e : Record) (passes : Bool) → answers e passes → passes ≡ t (entry_of e)
