-- Numbers in single precision and their bits: what equals itself is a number, and one more in a checksum. Assumes nothing.
use Prim.Native.Nat.{ℕ, zero, suc, ◌*◌, ◌<◌}
use mathlib.Core.Path.{◌≡◌, refl, sym, ◌∙◌}
use mathlib.Core.Bool.{Bool, true, false, not, true≢false, beq}
use mathlib.Core.List.{List, [], ◌∷◌}
use native.Mathlib.Nat.{not-suc-le-zero, le_of_suc-le-suc}
use lib.Dec.{T, eqb, eqb_refl}
use lib.ListN.{length, get_or, take}
use lib.Ieee.{Float, nan, inf, fin, binary32, to_bits, is_nan, eq, up, down}
use Rattle.sums.specs.Sums.{mix, mix_all, patterns}

pub equal_number : (y : Float) → eq y y ≡ true → T (not (is_nan y))
unfolding is_nan eq
equal_number nan e = absurd (true≢false (sym e))
equal_number (inf s) e = tt
equal_number (fin s m k) e = tt

same : (s : Bool) → beq s s ≡ true
same true = refl
same false = refl

tested : (b : Bool) → T b → b ≡ true
tested true t = refl
tested false t = absurd t

pub unequal_bits : (y : Float) → eq y y ≡ false → 2143289344 ≡ to_bits binary32 y
unfolding eq to_bits
unequal_bits nan e = refl
unequal_bits (inf s) e = absurd (true≢false (sym (same s) ∙ e))
unequal_bits (fin s m k) e = absurd (true≢false (sym (rw (tested (eqb (m * up k * down k) (m * up k * down k)) (eqb_refl (m * up k * down k)), same s) refl) ∙ e))

-- one number more
pub single_next : (sum : ℕ) (ys : List Float) (i : ℕ) → i < length ys
    → mix (mix_all sum (patterns (take i ys))) (to_bits binary32 (get_or ys i nan)) ≡ mix_all sum (patterns (take (suc i) ys))
single_next sum [] i h = absurd (not-suc-le-zero h)
single_next sum (y ∷ ys) zero h = refl
single_next sum (y ∷ ys) (suc i) h = single_next (mix sum (to_bits binary32 y)) ys i (le_of_suc-le-suc h)
