-- The lines that `plancheck` prints (document 01, "Plan A and its neighbours", last paragraph), and lines with one number, as lists of
-- ASCII bytes. Examples are in proofs/Examples.antt. Assumes nothing.
use Rattle.std.specs.Prelude.{ℕ, zero, suc, ◌+◌, ◌/◌, ◌%◌, true, false, List, [], ◌∷◌, ◌++◌, ltb}

-- the digits of n, the last of which is n % 10, in at most so many steps; 48 is "0"
unfoldable pub spelled : ℕ → ℕ → List ℕ
spelled zero n = []
spelled (suc steps) n = elim (ltb n 10) [ true ↦ (48 + n) ∷ [] | false ↦ spelled steps (n / 10) ++ ((48 + n % 10) ∷ []) ]

-- n in base 10, without leading zeros: n falls at each step, so n + 1 steps are enough for every n
unfoldable pub decimal : ℕ → List ℕ
decimal n = spelled (suc n) n

-- some words, then a number and the end of the line
unfoldable pub number_line : List ℕ → ℕ → List ℕ
number_line words n = words ++ decimal n ++ (10 ∷ [])

-- "ok "
abbrev pub ok : List ℕ
ok = 111 ∷ 107 ∷ 32 ∷ []

-- "refused "
abbrev pub refused : List ℕ
refused = 114 ∷ 101 ∷ 102 ∷ 117 ∷ 115 ∷ 101 ∷ 100 ∷ 32 ∷ []

-- a word, then two numbers with a space between them and the end of the line after them
unfoldable pub line_of : List ℕ → ℕ → ℕ → List ℕ
line_of word a b = word ++ decimal a ++ (32 ∷ []) ++ decimal b ++ (10 ∷ [])

-- Document 01, "Plan A and its neighbours", last paragraph: "prints one line: for Plan A `ok 425 4` (N_I, scattered count at phase 0)".
unfoldable pub ok_line : ℕ → ℕ → List ℕ
ok_line n scattered = line_of ok n scattered

-- The same paragraph: "or as `refused 14 835` (number, place)".
unfoldable pub refused_line : ℕ → ℕ → List ℕ
refused_line number place = line_of refused number place
