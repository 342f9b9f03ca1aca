-- The line that says what a subcarrier is doing and why (document 02, Req 08: "prints .. the role and its ground"), as a list of ASCII bytes.
-- The form is ours and stands in docs/WHYCHECK.md. Examples are in proofs/Examples.antt. Assumes nothing.
use Rattle.std.specs.Prelude.{ℕ, List, [], ◌∷◌, Ok, Err}
use Rattle.rules.specs.declared.Reason.TheVariants.{ExcludedBy, PlcBy, PilotBelow, PilotAbove, PilotBy, ScatteredOnly, DataBut}
use Rattle.rules.specs.Device.{khz50}
use Rattle.text.specs.Text.{number_line, refused_line}
use Rattle.rules.specs.Refusals.{WhyAnswer}
use Rattle.reasons.specs.Reasons.{why_answer}

-- ---- the role, and what its number is
-- "excluded record "
abbrev pub excluded_record_words : List ℕ
excluded_record_words = 101 ∷ 120 ∷ 99 ∷ 108 ∷ 117 ∷ 100 ∷ 101 ∷ 100 ∷ 32 ∷ 114 ∷ 101 ∷ 99 ∷ 111 ∷ 114 ∷ 100 ∷ 32 ∷ []

-- "plc record "
abbrev pub plc_record_words : List ℕ
plc_record_words = 112 ∷ 108 ∷ 99 ∷ 32 ∷ 114 ∷ 101 ∷ 99 ∷ 111 ∷ 114 ∷ 100 ∷ 32 ∷ []

-- "continuous below "
abbrev pub continuous_below_words : List ℕ
continuous_below_words = 99 ∷ 111 ∷ 110 ∷ 116 ∷ 105 ∷ 110 ∷ 117 ∷ 111 ∷ 117 ∷ 115 ∷ 32 ∷ 98 ∷ 101 ∷ 108 ∷ 111 ∷ 119 ∷ 32 ∷ []

-- "continuous above "
abbrev pub continuous_above_words : List ℕ
continuous_above_words = 99 ∷ 111 ∷ 110 ∷ 116 ∷ 105 ∷ 110 ∷ 117 ∷ 111 ∷ 117 ∷ 115 ∷ 32 ∷ 97 ∷ 98 ∷ 111 ∷ 118 ∷ 101 ∷ 32 ∷ []

-- "continuous record "
abbrev pub continuous_record_words : List ℕ
continuous_record_words = 99 ∷ 111 ∷ 110 ∷ 116 ∷ 105 ∷ 110 ∷ 117 ∷ 111 ∷ 117 ∷ 115 ∷ 32 ∷ 114 ∷ 101 ∷ 99 ∷ 111 ∷ 114 ∷ 100 ∷ 32 ∷ []

-- "scattered phase "
abbrev pub scattered_phase_words : List ℕ
scattered_phase_words = 115 ∷ 99 ∷ 97 ∷ 116 ∷ 116 ∷ 101 ∷ 114 ∷ 101 ∷ 100 ∷ 32 ∷ 112 ∷ 104 ∷ 97 ∷ 115 ∷ 101 ∷ 32 ∷ []

-- "data phase "
abbrev pub data_phase_words : List ℕ
data_phase_words = 100 ∷ 97 ∷ 116 ∷ 97 ∷ 32 ∷ 112 ∷ 104 ∷ 97 ∷ 115 ∷ 101 ∷ 32 ∷ []

-- the line of an answer; "a refused plan prints as in `plancheck`"
unfoldable pub answer_line : WhyAnswer → List ℕ
answer_line (Ok (ExcludedBy i)) = number_line excluded_record_words i
answer_line (Ok (PlcBy i)) = number_line plc_record_words i
answer_line (Ok (PilotBelow x)) = number_line continuous_below_words x
answer_line (Ok (PilotAbove x)) = number_line continuous_above_words x
answer_line (Ok (PilotBy i)) = number_line continuous_record_words i
answer_line (Ok (ScatteredOnly q)) = number_line scattered_phase_words q
answer_line (Ok (DataBut q)) = number_line data_phase_words q
answer_line (Err r) = refused_line r.number r.place

-- the line of subcarrier k at phase j of the plan s
unfoldable pub why_line : List ℕ → ℕ → ℕ → List ℕ
why_line s k j = answer_line (why_answer khz50 s k j)
