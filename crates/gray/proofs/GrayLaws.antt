-- Gray values over any number of bits: each stands at its position, the ends are exact, and the bits come back. Assumes nothing.
use Prim.Native.Nat.{ℕ, zero, suc, ◌+◌, ◌-◌, ◌*◌, ◌/◌, ◌%◌, ◌^◌, ◌<◌, ◌≤◌}
use mathlib.Core.Path.{◌≡◌, refl, sym, ap, ◌∙◌}
use mathlib.Core.Bool.{true, false}
use mathlib.Core.Logic.{by_cases}
use native.Mathlib.Omega.{arith}
use native.Mathlib.Decide.{dec_lt}
use native.Mathlib.Nat.{pow-suc, one-mul}
use lib.IntN.{ℤ, pos, negsuc, neg_ℤ, nat_abs, ◌+ℤ◌}
use lib.Dec.{ltb}
use lib.Pow.{pow_pos, pow_mono, shl_exact}
use lib.Signed.{lt_z}
use borrow.Author.Tests.{eq-eqb, ne_eqb, lt-ltb, le-ltb, ltb-true}
use Rattle.gray.specs.Gray.{gray}
use Rattle.gray.specs.Positions.{mirrored, position, value_at, bits_at, is_gray, position_of, bits_of}
use Rattle.gray.proofs.Signs.{no}
use Rattle.gray.proofs.PositionLaws.{position_odd, parity, position_lt, bits_at_lt, bits_position, position_bits, position_mod}

-- ---- the value at a position

pub value_at_up : (m p : ℕ) → 2 * p < 2 ^ m → value_at m p ≡ pos (2 ^ m - 1 - 2 * p)
unfolding value_at
value_at_up m p h = rw (lt-ltb (2 * p) (2 ^ m) h) refl

pub value_at_down : (m p : ℕ) → 2 ^ m ≤ 2 * p → value_at m p ≡ negsuc (2 * p - 2 ^ m)
unfolding value_at
value_at_down m p h = rw (le-ltb (2 * p) (2 ^ m) h) refl

-- 2^m more than a value of m bits
lifted : (m p : ℕ) → p < 2 ^ m → pos (2 ^ m) +ℤ value_at m p ≡ pos (2 ^ suc m - 1 - 2 * p)
lifted m p h =
    let d = pow-suc 2 m in
    by_cases (dec_lt (2 * p) (2 ^ m))
    (λ l. ap (λ (z : ℤ). pos (2 ^ m) +ℤ z) (value_at_up m p l) ∙ ap pos (omega arith))
    (λ n. let g : 2 ^ m ≤ 2 * p = omega arith in
    ap (λ (z : ℤ). pos (2 ^ m) +ℤ z) (value_at_down m p g) ∙ rw (le-ltb (2 ^ m) (suc (2 * p - 2 ^ m)) (omega arith)) (ap pos (omega arith)))

negative : (a b : ℕ) → a ≡ suc b → neg_ℤ (pos a) ≡ negsuc b
negative a b e = ap (λ (n : ℕ). neg_ℤ (pos n)) e

-- Gray_m x is the value at the position of x
pub gray_value_at : (m x : ℕ) → gray m x ≡ value_at m (position m x)
unfolding gray position
gray_value_at zero x = sym (value_at_up 0 0 (omega arith))
gray_value_at (suc m) x =
    let d = pow-suc 2 m in
    let p = position m (x / 2) in
    let b : p < 2 ^ m = position_lt m (x / 2) in
    let i : pos (2 ^ m) +ℤ gray m (x / 2) ≡ pos (2 ^ suc m - 1 - 2 * p) = ap (λ (z : ℤ). pos (2 ^ m) +ℤ z) (gray_value_at m (x / 2)) ∙ lifted m p b in
    parity x
    (λ e. rw (eq-eqb (x % 2) 0 e) (i ∙ sym (value_at_up (suc m) p (omega arith))))
    (λ o. rw (ne_eqb (x % 2) 0 (λ e. omega arith))
    (ap neg_ℤ i ∙ negative (2 ^ suc m - 1 - 2 * p) (2 * mirrored (suc m) p - 2 ^ suc m) (omega arith) ∙ sym (value_at_down (suc m) (mirrored (suc m) p) (omega arith))))

-- only the m lowest bits count
pub gray_mod : (m x : ℕ) → gray m (x % 2 ^ m) ≡ gray m x
gray_mod m x = gray_value_at m (x % 2 ^ m) ∙ ap (value_at m) (position_mod m x) ∙ sym (gray_value_at m x)

-- ---- odd, and no further out than the ends, which 0 and 1 reach

pub value_at_odd : (m p : ℕ) → p < 2 ^ suc m → nat_abs (value_at (suc m) p) % 2 ≡ 1
value_at_odd m p h =
    let d = pow-suc 2 m in
    by_cases (dec_lt (2 * p) (2 ^ suc m))
    (λ l. rw (value_at_up (suc m) p l) (omega arith))
    (λ n. let g : 2 ^ suc m ≤ 2 * p = omega arith in rw (value_at_down (suc m) p g) (omega arith))

pub value_at_in : (m p : ℕ) → p < 2 ^ m → nat_abs (value_at m p) < 2 ^ m
value_at_in m p h =
    by_cases (dec_lt (2 * p) (2 ^ m))
    (λ l. rw (value_at_up m p l) (omega arith))
    (λ n. let g : 2 ^ m ≤ 2 * p = omega arith in rw (value_at_down m p g) (omega arith))

pub gray_odd : (m x : ℕ) → 0 < m → nat_abs (gray m x) % 2 ≡ 1
gray_odd zero x h = absurd (omega arith)
gray_odd (suc m) x h = rw (gray_value_at (suc m) x) (value_at_odd m (position (suc m) x) (position_lt (suc m) x))

pub gray_in : (m x : ℕ) → nat_abs (gray m x) < 2 ^ m
gray_in m x = rw (gray_value_at m x) (value_at_in m (position m x) (position_lt m x))

-- ---- the bits come back

position_back : (m p : ℕ) → p < 2 ^ m → position_of m (value_at m p) ≡ p
position_back m p h =
    by_cases (dec_lt (2 * p) (2 ^ m))
    (λ l. rw (value_at_up m p l) (omega arith))
    (λ n. let g : 2 ^ m ≤ 2 * p = omega arith in rw (value_at_down m p g) (omega arith))

pub bits_of_gray : (m x : ℕ) → x < 2 ^ m → bits_of m (gray m x) ≡ x
unfolding bits_of
bits_of_gray m x h = rw (gray_value_at m x, position_back m (position m x) (position_lt m x)) (bits_position m x h)

-- the position of a number that is no further out than the ends; the value there, if the number is odd
pub position_of_lt : (m : ℕ) (c : ℤ) → nat_abs c < 2 ^ m → position_of m c < 2 ^ m
position_of_lt m (pos a) h = omega arith
position_of_lt m (negsuc a) h = omega arith

value_at_back : (m : ℕ) (c : ℤ) → 2 ^ m % 2 ≡ 0 → nat_abs c % 2 ≡ 1 → nat_abs c < 2 ^ m → value_at m (position_of m c) ≡ c
value_at_back m (pos a) d o h = value_at_up m ((2 ^ m - 1 - a) / 2) (omega arith) ∙ ap pos (omega arith)
value_at_back m (negsuc a) d o h = value_at_down m ((2 ^ m + a) / 2) (omega arith) ∙ ap negsuc (omega arith)

pub pow_even : (m : ℕ) → 0 < m → 2 ^ m % 2 ≡ 0
pow_even zero h = absurd (omega arith)
pow_even (suc m) h = let d = pow-suc 2 m in omega arith

pub gray_bits_of : (m : ℕ) (c : ℤ) → 0 < m → nat_abs c % 2 ≡ 1 → nat_abs c < 2 ^ m → gray m (bits_of m c) ≡ c
unfolding bits_of
gray_bits_of m c z o h =
    gray_value_at m (bits_at m (position_of m c)) ∙ ap (value_at m) (position_bits m (position_of m c) (position_of_lt m c h)) ∙ value_at_back m c (pow_even m z) o h

pub bits_of_lt : (m : ℕ) (c : ℤ) → nat_abs c < 2 ^ m → bits_of m c < 2 ^ m
unfolding bits_of
bits_of_lt m c h = bits_at_lt m (position_of m c) (position_of_lt m c h)

-- ---- the ends, over any number of bits, and the document's two values of one bit

position_zero : (m : ℕ) → position m 0 ≡ 0
unfolding position
position_zero zero = refl
position_zero (suc m) = position_zero m

pub highest : (m : ℕ) → gray m 0 ≡ pos (2 ^ m - 1)
highest m = gray_value_at m 0 ∙ ap (value_at m) (position_zero m) ∙ value_at_up m 0 (omega (arith, pow_pos m)) ∙ ap pos (omega arith)

pub lowest_value : (m : ℕ) → gray (suc m) 1 ≡ neg_ℤ (pos (2 ^ suc m - 1))
lowest_value m =
    let d = pow-suc 2 m in
    let h = pow_pos m in
    let e : position (suc m) 1 ≡ 2 ^ suc m - 1 = position_odd m 1 refl ∙ ap (mirrored (suc m)) (position_zero m) ∙ omega arith in
    gray_value_at (suc m) 1 ∙ ap (value_at (suc m)) e ∙ value_at_down (suc m) (2 ^ suc m - 1) (omega arith)
    ∙ sym (negative (2 ^ suc m - 1) (2 * (2 ^ suc m - 1) - 2 ^ suc m) (omega arith))

pub gray_one : (gray 1 0 ≡ pos 1) × (gray 1 1 ≡ negsuc 0)
unfolding gray
gray_one = (refl, refl)

-- ---- the tests and the arithmetic of the code

pub is_gray_even : (m : ℕ) (c : ℤ) → nat_abs c % 2 ≡ 0 → false ≡ is_gray m c
unfolding is_gray
is_gray_even m c e = rw (ne_eqb (nat_abs c % 2) 1 (λ o. omega arith)) refl

pub is_gray_odd : (m : ℕ) (c : ℤ) → (nat_abs c % 2 ≡ 0 → ⊥) → ltb (nat_abs c) (2 ^ m) ≡ is_gray m c
unfolding is_gray
is_gray_odd m c n = parity (nat_abs c) (λ e. absurd (n e)) (λ o. rw (eq-eqb (nat_abs c % 2) 1 o) refl)

pub position_below : (m : ℕ) (c : ℤ) → lt_z c (pos 0) ≡ true → (2 ^ m + nat_abs c - 1) / 2 ≡ position_of m c
position_below m (pos a) h = absurd (omega (arith, ltb-true a 0 h))
position_below m (negsuc a) h = ap (λ (k : ℕ). k / 2) (omega arith)

pub position_above : (m : ℕ) (c : ℤ) → lt_z c (pos 0) ≡ false → (2 ^ m - 1 - nat_abs c) / 2 ≡ position_of m c
position_above m (pos a) h = refl
position_above m (negsuc a) h = absurd (no h)

-- the upper half of the positions has the values from 0 up, the lower half those below
pub gray_up : (m x : ℕ) → 2 * position m x < 2 ^ m → gray m x ≡ pos (2 ^ m - 1 - 2 * position m x)
gray_up m x h = gray_value_at m x ∙ value_at_up m (position m x) h

pub gray_down : (m x : ℕ) → 2 ^ m ≤ 2 * position m x → gray m x ≡ neg_ℤ (pos (2 * position m x + 1 - 2 ^ m))
gray_down m x h =
    gray_value_at m x ∙ value_at_down m (position m x) h ∙ sym (negative (2 * position m x + 1 - 2 ^ m) (2 * position m x - 2 ^ m) (omega arith))

-- 1 shifted up
pub power_of : (b : ℕ) → b ≤ 14 → 1 * 2 ^ b % 2 ^ 32 ≡ 2 ^ b
power_of b h = shl_exact 1 b 32 (omega arith) (omega arith) ∙ one-mul (2 ^ b)

pub small_power : (b : ℕ) → b ≤ 7 → 2 ^ b ≤ 128
small_power b h = pow_mono h
