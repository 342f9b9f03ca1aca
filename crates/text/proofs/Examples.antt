-- Numbers and lines spelled out: "0", "425", "4294967295", "ok 425 4" and "refused 14 835" with the end of the line. Assumes nothing.
use mathlib.Core.Path.{◌≡◌, refl}
use mathlib.Core.List.{[], ◌∷◌}
use Rattle.text.specs.Text.{spelled, decimal, line_of, ok_line, refused_line}

pub zero_text : decimal 0 ≡ 48 ∷ []
unfolding spelled decimal
zero_text = refl

pub ranked_text : decimal 425 ≡ 52 ∷ 50 ∷ 53 ∷ []
unfolding spelled decimal
ranked_text = refl

pub largest_text : decimal 4294967295 ≡ 52 ∷ 50 ∷ 57 ∷ 52 ∷ 57 ∷ 54 ∷ 55 ∷ 50 ∷ 57 ∷ 53 ∷ []
unfolding spelled decimal
largest_text = refl

-- Plan A
pub accepted_line : ok_line 425 4 ≡ 111 ∷ 107 ∷ 32 ∷ 52 ∷ 50 ∷ 53 ∷ 32 ∷ 52 ∷ 10 ∷ []
unfolding spelled decimal line_of ok_line
accepted_line = refl

-- Plan A, also excluding 850 to 854
pub refused_line_lem : refused_line 14 835 ≡ 114 ∷ 101 ∷ 102 ∷ 117 ∷ 115 ∷ 101 ∷ 100 ∷ 32 ∷ 49 ∷ 52 ∷ 32 ∷ 56 ∷ 51 ∷ 53 ∷ 10 ∷ []
unfolding spelled decimal line_of refused_line
refused_line_lem = refl
