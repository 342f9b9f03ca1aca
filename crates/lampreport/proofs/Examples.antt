-- Lines spelled out: "dark 925 1003" of the pilots of Plan A, of which these two are dark, and "all lit", with the end of the line. Assumes nothing.
use Prim.Native.Nat.{ℕ}
use mathlib.Core.Path.{◌≡◌, refl}
use mathlib.Core.List.{List, [], ◌∷◌}
use Rattle.text.specs.Text.{spelled, decimal}
use Rattle.lampreport.specs.LampLine.{spaced, dark_pilots, dark_line, lamp_line}

-- document 01, "Plan A and its neighbours"
abbrev plan_a : List ℕ
plan_a = 925 ∷ 937 ∷ 948 ∷ 957 ∷ 994 ∷ 1003 ∷ 1014 ∷ 1026 ∷ []

pub dark_line_lem : lamp_line plan_a (0 ∷ 1 ∷ 1 ∷ 1 ∷ 1 ∷ 0 ∷ 1 ∷ 1 ∷ []) 8 ≡ 100 ∷ 97 ∷ 114 ∷ 107 ∷ 32 ∷ 57 ∷ 50 ∷ 53 ∷ 32 ∷ 49 ∷ 48 ∷ 48 ∷ 51 ∷ 10 ∷ []
unfolding spelled decimal spaced dark_pilots dark_line lamp_line
dark_line_lem = refl

pub lit_line : lamp_line plan_a (1 ∷ 1 ∷ 1 ∷ 1 ∷ 1 ∷ 1 ∷ 1 ∷ 1 ∷ []) 8 ≡ 97 ∷ 108 ∷ 108 ∷ 32 ∷ 108 ∷ 105 ∷ 116 ∷ 10 ∷ []
unfolding spelled decimal spaced dark_pilots dark_line lamp_line
lit_line = refl
