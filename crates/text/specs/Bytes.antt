-- The bytes that a `Line` holds, and how it grows. Assumes nothing.
use Rattle.std.specs.Prelude.{ℕ, ◌+◌, ◌≤◌, ◌≡◌, List, ◌++◌, length, take}
use Rattle.text.specs.declared.Line.{Line}

-- the bytes of a line
abbrev pub written : Line → List ℕ
written l = take l.len l.text

-- the places of a line: the longest has 30 bytes, "refused ", twice 10 digits, a space and the end of the line
abbrev pub places : ℕ
places = 32

-- so many bytes of words leave room for a number, which has up to ten digits, and the end of the line
abbrev pub words_max : ℕ
words_max = 21

-- n bytes more fit
pub record Room (l : Line) (n : ℕ) : Type 0 where
  pub size : length l.text ≡ places
  pub free : l.len + n ≤ places

-- r is l with these bytes more
pub record Longer (l : Line) (bytes : List ℕ) (r : Line) : Type 0 where
  pub len : r.len ≡ l.len + length bytes
  pub text : written r ≡ written l ++ bytes
  pub size : length r.text ≡ places
