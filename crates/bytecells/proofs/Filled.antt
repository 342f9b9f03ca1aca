-- Loops that put the numbers of a list t in the place of those of s, one after the other. Assumes nothing.
use Prim.Native.Nat.{ℕ, ◌+◌, ◌≤◌, ◌<◌}
use mathlib.Core.Path.{◌≡◌, ap, ◌∙◌}
use mathlib.Core.List.{List}
use native.Mathlib.Nat.{zero-add}
use native.Mathlib.Numerals.{add-one}
use native.Mathlib.Omega.{arith}
use lib.ListN.{length, take, get_or, set}
use lib.Seq.{sets, take_all}
use Rattle.counting.proofs.Lists.{sets_snoc, sets_all}

-- one more
pub next_of : (s t y : List ℕ) (i x : ℕ) → y ≡ sets s 0 (take i t) → i < length t → x ≡ get_or t i 0 → set y i x ≡ sets s 0 (take (i + 1) t)
next_of s t y i x ey h ex = rw (ey, ex, add-one i) (rw (zero-add i) at (sets_snoc s 0 t i h))

-- all of them
pub all_of : (s t y : List ℕ) (i : ℕ) → y ≡ sets s 0 (take i t) → length t ≡ length s → length s ≤ i → y ≡ t
all_of s t y i ey e h = ey ∙ ap (sets s 0) (take_all i t (omega arith)) ∙ sets_all s t (omega arith)
