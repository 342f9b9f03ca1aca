-- The numbers under the root of the scaling factors (source document 000, Table XX-1: fourteen, for loads 1 to 14). Assumes nothing.
use Rattle.std.specs.Prelude.{ℕ, ◌-◌, List, [], ◌∷◌, get_or}

abbrev pub roots : List ℕ
roots = 1 ∷ 2 ∷ 5 ∷ 10 ∷ 20 ∷ 42 ∷ 82 ∷ 170 ∷ 330 ∷ 682 ∷ 1322 ∷ 2730 ∷ 5290 ∷ 10922 ∷ []

-- the number under the root of a load's factor
abbrev pub root : ℕ → ℕ
root m = get_or roots (m - 1) 0
