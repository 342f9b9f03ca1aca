-- Lines spelled out: "excluded record 1", "continuous below 24" and "data phase 49" with the end of the line. Assumes nothing.
use mathlib.Core.Path.{◌≡◌, refl}
use mathlib.Core.List.{[], ◌∷◌}
use Rattle.std.specs.Prelude.{Ok}
use Rattle.rules.specs.declared.Reason.TheVariants.{ExcludedBy, PilotBelow, DataBut}
use Rattle.text.specs.Text.{spelled, decimal, number_line}
use Rattle.whyreport.specs.WhyLine.{answer_line}

pub excluded_line : answer_line (Ok (ExcludedBy 1)) ≡ 101 ∷ 120 ∷ 99 ∷ 108 ∷ 117 ∷ 100 ∷ 101 ∷ 100 ∷ 32 ∷ 114 ∷ 101 ∷ 99 ∷ 111 ∷ 114 ∷ 100 ∷ 32 ∷ 49 ∷ 10 ∷ []
unfolding spelled decimal number_line answer_line
excluded_line = refl

pub pilot_line : answer_line (Ok (PilotBelow 24)) ≡ 99 ∷ 111 ∷ 110 ∷ 116 ∷ 105 ∷ 110 ∷ 117 ∷ 111 ∷ 117 ∷ 115 ∷ 32 ∷ 98 ∷ 101 ∷ 108 ∷ 111 ∷ 119 ∷ 32 ∷ 50 ∷ 52 ∷ 10 ∷ []
unfolding spelled decimal number_line answer_line
pilot_line = refl

pub data_line : answer_line (Ok (DataBut 49)) ≡ 100 ∷ 97 ∷ 116 ∷ 97 ∷ 32 ∷ 112 ∷ 104 ∷ 97 ∷ 115 ∷ 101 ∷ 32 ∷ 52 ∷ 57 ∷ 10 ∷ []
unfolding spelled decimal number_line answer_line
data_line = refl
