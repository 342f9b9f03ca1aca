-- The line that lampcheck prints after a symbol: the pilots that are dark (document 02, Req 10), as a list of ASCII bytes. The form is ours and stands
-- in docs/LAMPCHECK.md. Examples are in proofs/Examples.antt. Assumes nothing.
use Rattle.std.specs.Prelude.{ℕ, zero, suc, List, [], ◌∷◌, ◌++◌, eqb, get_or}
use Rattle.counting.specs.Search.{keep}
use Rattle.text.specs.Text.{decimal}

-- "all lit", and the end of the line
abbrev pub all_lit : List ℕ
all_lit = 97 ∷ 108 ∷ 108 ∷ 32 ∷ 108 ∷ 105 ∷ 116 ∷ 10 ∷ []

-- "dark"
abbrev pub dark_word : List ℕ
dark_word = 100 ∷ 97 ∷ 114 ∷ 107 ∷ []

-- numbers, each after a space
unfoldable pub spaced : List ℕ → List ℕ
spaced [] = []
spaced (k ∷ ks) = 32 ∷ (decimal k ++ spaced ks)

-- those of the first n pilots ks whose light is 0, in their order
unfoldable pub dark_pilots : List ℕ → List ℕ → ℕ → List ℕ
dark_pilots ks lights zero = []
dark_pilots ks lights (suc n) = dark_pilots ks lights n ++ keep (eqb (get_or lights n 0) 0) (get_or ks n 0) []

-- the line of the pilots that are dark
unfoldable pub dark_line : List ℕ → List ℕ
dark_line [] = all_lit
dark_line (k ∷ ks) = dark_word ++ spaced (k ∷ ks) ++ (10 ∷ [])

-- the line of n pilots and their lights
unfoldable pub lamp_line : List ℕ → List ℕ → ℕ → List ℕ
lamp_line ks lights n = dark_line (dark_pilots ks lights n)
