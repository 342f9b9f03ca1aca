-- The layout of an answer in the first 16 bytes of a C host's answer buffer (request 01; docs/C-HOST.md). Assumes nothing.
use Rattle.std.specs.Prelude.{ℕ, ◌/◌, ◌%◌, Bool, List, [], ◌∷◌, ◌++◌, ltb, length}
use Rattle.std.proofs.lemmas.List.Edits.{sets}
use Rattle.answerbytes.specs.declared.Told.{Told}

-- a number as four bytes, high byte first
unfoldable pub four : ℕ → List ℕ
four x = (x / 16777216) ∷ (x / 65536 % 256) ∷ (x / 256 % 256) ∷ (x % 256) ∷ []

-- place, phase, heard and value, four bytes each
unfoldable pub layout : Told → List ℕ
layout t = four t.place ++ four t.phase ++ four t.heard ++ four t.value

-- 21: too short an answer buffer
unfoldable pub short : List ℕ → Bool
short a = ltb (length a) 16

-- the answer at the start of the buffer; bytes past it are untouched
unfoldable pub written : List ℕ → Told → List ℕ
written a t = sets a 0 (layout t)
