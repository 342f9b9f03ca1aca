-- Which cells of a symbol the wrong receives of linkcheck spoil (docs/LINKCHECK.md, "What is tried"). Assumes nothing.
use Rattle.std.specs.Prelude.{ℕ, Bool, false}
use Rattle.samples.specs.Inputs.{is_placeholder, is_data}
use Rattle.linkcheck.specs.declared.receives.ReceiveKind.{ReceiveKind}
use Rattle.linkcheck.specs.declared.receives.ReceiveKind.TheVariants.{PhaseTooHigh, HeardTooMany, PastLastPhase, ShortSymbol, ShortStore, ShortBuffer, PlaceholderSpoiled, CellTooHigh, Right}

-- a receive of this kind spoils such a cell: a scattered placeholder, or data or filler; the others spoil none
abbrev pub is_spoiled : ReceiveKind → ℕ → Bool
is_spoiled PlaceholderSpoiled cell = is_placeholder cell
is_spoiled CellTooHigh cell = is_data cell
is_spoiled PhaseTooHigh cell = false
is_spoiled HeardTooMany cell = false
is_spoiled PastLastPhase cell = false
is_spoiled ShortSymbol cell = false
is_spoiled ShortStore cell = false
is_spoiled ShortBuffer cell = false
is_spoiled Right cell = false
