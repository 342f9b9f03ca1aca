-- Four bytes laid out in a buffer, and the test of a buffer's length. Assumes nothing.
use Prim.Native.Nat.{ℕ, suc, ◌+◌, ◌≤◌, ◌<◌}
use mathlib.Core.Path.{◌≡◌, refl, sym, ap}
use mathlib.Core.Bool.{Bool}
use mathlib.Core.List.{List, [], ◌∷◌}
use native.Mathlib.Omega.{arith}
use lib.ListN.{length, set}
use lib.Seq.{sets}
use borrow.Author.Tests.{lt-ltb, le-ltb}
use Rattle.counting.specs.Search.{pick}
use Rattle.answerbytes.specs.Layout.{short}

-- four bytes written one after the other
pub put_bytes : (a : List ℕ) (at w x y z : ℕ) → set (set (set (set a at w) (at + 1) x) (at + 2) y) (at + 3) z ≡ sets a at (w ∷ x ∷ y ∷ z ∷ [])
put_bytes a at w x y z =
    let one : at + 1 ≡ suc at = omega arith in
    let two : at + 2 ≡ suc (suc at) = omega arith in
    let three : at + 3 ≡ suc (suc (suc at)) = omega arith in
    rw (one, two, three) refl

-- a buffer that is too short leaves what 21 leaves, a longer one what the entry does
pub too_short {ℓ} : {A : Type ℓ} (a : List ℕ) (x y : A) → length a < 16 → x ≡ pick (short a) x y
unfolding short
too_short a x y h = sym (ap (λ (b : Bool). pick b x y) (lt-ltb (length a) 16 h))

pub long_enough {ℓ} : {A : Type ℓ} (a : List ℕ) (x y : A) → 16 ≤ length a → y ≡ pick (short a) x y
unfolding short
long_enough a x y h = sym (ap (λ (b : Bool). pick b x y) (le-ltb (length a) 16 h))
