-- `linkcheck::receives::place_of` meets its contract. Assumes nothing.
use Rattle.std.proofs.Common.{◌≡◌, refl, ℕ, get_or}
use mathlib.Core.Bool.{false}
use Rattle.counting.proofs.Laws.{none_lowest}
use Rattle.samples.proofs.FirstLaws.{first_none}
use Rattle.linkcheck.specs.Spoiled.{is_spoiled}
use Rattle.linkcheck.specs.declared.receives.ReceiveKind.{ReceiveKind}
use Rattle.linkcheck.specs.declared.receives.ReceiveKind.TheVariants.{PhaseTooHigh, HeardTooMany, PastLastPhase, ShortSymbol, ShortStore, ShortBuffer, PlaceholderSpoiled, CellTooHigh, Right}
use Rattle.linkcheck.proofs.receives.place_of.Goals as goal

-- the kinds that spoil no cell
spoils_none : (kind : ReceiveKind) → ¬ (kind ≡ PlaceholderSpoiled) → ¬ (kind ≡ CellTooHigh) → (cell : ℕ) → is_spoiled kind cell ≡ false
spoils_none PhaseTooHigh a b cell = refl
spoils_none HeardTooMany a b cell = refl
spoils_none PastLastPhase a b cell = refl
spoils_none ShortSymbol a b cell = refl
spoils_none ShortStore a b cell = refl
spoils_none ShortBuffer a b cell = refl
spoils_none PlaceholderSpoiled a b cell = absurd (a refl)
spoils_none CellTooHigh a b cell = absurd (b refl)
spoils_none Right a b cell = refl

pub returns-in_default : goal.returns-in_default
returns-in_default c =
    let a = c.args in
    first_none (λ k. is_spoiled a.kind (get_or a.symbol.now k 0)) 4096
    (none_lowest (λ k. is_spoiled a.kind (get_or a.symbol.now k 0)) 4096 (λ k h. spoils_none a.kind c.in_default.not-PlaceholderSpoiled c.in_default.not-CellTooHigh (get_or a.symbol.now k 0)))
