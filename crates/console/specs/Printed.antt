-- What a text with numbers prints. Assumes nothing.
use Rattle.std.specs.Prelude.{ℕ, true, false, ◌==◌, List, [], ◌∷◌, ◌++◌, drop, get_or}
use Rattle.text.specs.Text.{decimal}

-- a # (35) prints as a number, any other byte as it is
unfoldable pub piece : ℕ → ℕ → List ℕ
piece b n = elim (b == 35) [ true ↦ decimal n | false ↦ b ∷ [] ]

-- how many numbers a byte of the text uses up
unfoldable pub used : ℕ → ℕ
used b = elim (b == 35) [ true ↦ 1 | false ↦ 0 ]

-- the text, in which each # stands for the next of the numbers, and for 0 where there are no more
unfoldable pub printed : List ℕ → List ℕ → List ℕ
printed [] numbers = []
printed (b ∷ bs) numbers = piece b (get_or numbers 0 0) ++ printed bs (drop (used b) numbers)

-- "refused # # #" and the end of the line
abbrev pub refused : List ℕ
refused = 114 ∷ 101 ∷ 102 ∷ 117 ∷ 115 ∷ 101 ∷ 100 ∷ 32 ∷ 35 ∷ 32 ∷ 35 ∷ 32 ∷ 35 ∷ 10 ∷ []
