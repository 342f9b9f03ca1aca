-- What a word of a program's arguments says: a number in decimal digits, or none. A word is a list of ASCII bytes. Assumes nothing.
use Rattle.std.specs.Prelude.{ℕ, ◌+◌, ◌-◌, ◌*◌, ◌≤◌, Bool, true, ◌&&◌, List, [], ◌∷◌, leb, length, Option, Some, None}
use Rattle.counting.specs.Search.{pick}

-- the byte is a decimal digit: 48 is "0" and 57 is "9"
unfoldable pub is_digit : ℕ → Bool
is_digit b = leb 48 b && leb b 57

-- every byte of the word is a digit
unfoldable pub digits : List ℕ → Bool
digits [] = true
digits (b ∷ bs) = is_digit b && digits bs

-- the number v with further digits written after it
unfoldable pub value_after : ℕ → List ℕ → ℕ
value_after v [] = v
value_after v (b ∷ bs) = value_after (10 * v + (b - 48)) bs

-- the number that the digits of a word spell, the last of which counts one
abbrev pub value_of : List ℕ → ℕ
value_of word = value_after 0 word

-- the number of a word that is not empty, has digits only and spells at most `most`; any other word says none
unfoldable pub word_number : List ℕ → ℕ → Option ℕ
word_number word most = pick (leb 1 (length word) && digits word && leb (value_of word) most) (Some (value_of word)) None

-- where a word says a number, it is at most `most`
abbrev pub UpTo : ℕ → Option ℕ → Type 0
UpTo most (Some n) = n ≤ most
UpTo most None = Unit {0}
