-- Laws of tests: and, or, and the two outcomes of a comparison for a proof by cases. Assumes nothing.
use mathlib.Core.Path.{◌≡◌, refl, sym, ap, ◌∙◌}
use mathlib.Core.Logic.{◌⊎◌, inl, inr}
use mathlib.Core.Bool.{Bool, true, false, ◌&&◌, ◌||◌, true≢false}
use Prim.Native.Nat.{ℕ, zero, suc, ◌≤◌, ◌<◌}
use native.Mathlib.Omega.{arith}
use lib.Bits.{bit_or, or_zero_l, or_add_and, and_le_r}
use lib.Dec.{ltb, eqb, eqb-suc-zero}
use borrow.Author.Tests.{ltb-true, ltb-false, eqb-true, eqb-false, eq-eqb, ne_eqb}

pub and_false : (a : Bool) → (a && false) ≡ false
and_false true = refl
and_false false = refl

pub or_false : (a : Bool) → (a || false) ≡ a
or_false true = refl
or_false false = refl

pub or_true : (a : Bool) → (a || true) ≡ true
or_true true = refl
or_true false = refl

-- neither of two holds, where one or the other does not
pub neither : (a b : Bool) → (a || b) ≡ false → (a ≡ false) × (b ≡ false)
neither true b e = absurd (true≢false e)
neither false b e = (refl, e)

abbrev pub Less : ℕ → ℕ → Type 0
Less a b = ((a < b) × (ltb a b ≡ true)) ⊎ ((b ≤ a) × (ltb a b ≡ false))

-- a comparison with what it says
pub decide : (a b : ℕ) → Less a b
decide a b = go (ltb a b) refl
  where
    go : (t : Bool) → ltb a b ≡ t → Less a b
    go true e = inl (ltb-true a b e, e)
    go false e = inr (ltb-false a b e, e)

abbrev pub Same : ℕ → ℕ → Type 0
Same a b = ((a ≡ b) × (eqb a b ≡ true)) ⊎ ((a ≡ b → ⊥) × (eqb a b ≡ false))

pub decide_eq : (a b : ℕ) → Same a b
decide_eq a b = go (eqb a b) refl
  where
    go : (t : Bool) → eqb a b ≡ t → Same a b
    go true e = inl (eqb-true a b e, e)
    go false e = inr (eqb-false a b e, e)

pub decide_bool : (t : Bool) → (t ≡ true) ⊎ (t ≡ false)
decide_bool true = inl refl
decide_bool false = inr refl

-- a test has come out one way or the other
pub by_test {ℓ} : {P : Type ℓ} (b : Bool) → (b ≡ true → P) → (b ≡ false → P) → P
by_test true f g = f refl
by_test false f g = g refl

-- a test has not come out both ways
pub conflict : (b : Bool) → b ≡ true → b ≡ false → ⊥
conflict b p q = true≢false (sym p ∙ q)

pub and_left : (a b : Bool) → (a && b) ≡ true → a ≡ true
and_left true b e = refl
and_left false b e = e

pub and_right : (a b : Bool) → (a && b) ≡ true → b ≡ true
and_right true b e = e
and_right false b e = absurd (conflict false e refl)

pub and_intro : (a b : Bool) → a ≡ true → b ≡ true → (a && b) ≡ true
and_intro a b p q = rw p q

pub eqb_sym : (a b : ℕ) → eqb a b ≡ eqb b a
eqb_sym a b =
    by_test (eqb b a)
    (λ e. eq-eqb a b (sym (eqb-true b a e)) ∙ sym e)
    (λ e. ne_eqb a b (λ z. conflict (eqb b a) (eq-eqb b a (sym z)) e) ∙ sym e)

-- numbers joined bit by bit are 0 if both are
pub or_zero : (a b : ℕ) → eqb (bit_or a b) 0 ≡ (eqb a 0 && eqb b 0)
or_zero zero b = ap (λ (n : ℕ). eqb n 0) (or_zero_l b)
or_zero (suc a) b =
    ne_eqb (bit_or (suc a) b) 0 (λ z. absurd (omega (arith, or_add_and (suc a) b, and_le_r (suc a) b)))
    ∙ sym (ap (λ (t : Bool). t && eqb b 0) (eqb-suc-zero a))
