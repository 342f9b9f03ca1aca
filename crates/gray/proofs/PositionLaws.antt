-- The positions of Gray values: one for each number of m bits, over any m; a position among more bits gives that among fewer. Assumes nothing.
use Prim.Native.Nat.{ℕ, zero, suc, ◌+◌, ◌-◌, ◌*◌, ◌/◌, ◌%◌, ◌^◌, ◌<◌, ◌≤◌}
use mathlib.Core.Path.{◌≡◌, refl, sym, ap, ◌∙◌, subst}
use mathlib.Core.Logic.{by_cases}
use native.Mathlib.Omega.{arith}
use native.Mathlib.Decide.{dec_lt, ℕ_discrete}
use native.Mathlib.Numerals.{add-one, one-add}
use native.Mathlib.Nat.{pow-suc, add-zero, add-suc, mul_assoc, le-add_right, lt_of_lt_of_le}
use lib.Pow.{pow_mono, shr-shr, field, mod-mod-pow}
use borrow.Author.Tests.{eq-eqb, ne_eqb, lt-ltb, le-ltb, le-leb, lt-leb}
use Rattle.gray.specs.Positions.{mirrored, position, bits_at, widened}

-- ---- one bit more

pub position_even : (m x : ℕ) → x % 2 ≡ 0 → position (suc m) x ≡ position m (x / 2)
unfolding position
position_even m x h = rw (eq-eqb (x % 2) 0 h) refl

pub position_odd : (m x : ℕ) → x % 2 ≡ 1 → position (suc m) x ≡ mirrored (suc m) (position m (x / 2))
unfolding position
position_odd m x h = rw (ne_eqb (x % 2) 0 (λ e. omega arith)) refl

pub bits_at_low : (m p : ℕ) → p < 2 ^ m → bits_at (suc m) p ≡ 2 * bits_at m p
unfolding bits_at
bits_at_low m p h = rw (lt-ltb p (2 ^ m) h, lt-leb (2 ^ m) p h) (omega arith)

pub bits_at_high : (m p : ℕ) → 2 ^ m ≤ p → bits_at (suc m) p ≡ 2 * bits_at m (mirrored (suc m) p) + 1
unfolding bits_at
bits_at_high m p h = rw (le-ltb p (2 ^ m) h, le-leb (2 ^ m) p h) refl

-- x is even or odd
pub parity : {C : Type 0} (x : ℕ) → (x % 2 ≡ 0 → C) → (x % 2 ≡ 1 → C) → C
parity x f g = by_cases (ℕ_discrete (x % 2) 0) f (λ n. g (omega arith))

-- ---- the positions of m bits are the numbers below 2^m

pub position_lt : (m x : ℕ) → position m x < 2 ^ m
unfolding position
position_lt zero x = omega arith
position_lt (suc m) x =
    let h = position_lt m (x / 2) in
    let d = pow-suc 2 m in
    parity x (λ e. rw (position_even m x e) (omega arith)) (λ o. rw (position_odd m x o) (omega arith))

pub bits_at_lt : (m p : ℕ) → p < 2 ^ m → bits_at m p < 2 ^ m
unfolding bits_at
bits_at_lt zero p h = omega arith
bits_at_lt (suc m) p h =
    let d = pow-suc 2 m in
    by_cases (dec_lt p (2 ^ m))
    (λ l. rw (bits_at_low m p l) (omega (arith, bits_at_lt m p l)))
    (λ n. let g : 2 ^ m ≤ p = omega arith in
    rw (bits_at_high m p g) (omega (arith, bits_at_lt m (mirrored (suc m) p) (omega arith))))

pub bits_position : (m x : ℕ) → x < 2 ^ m → bits_at m (position m x) ≡ x
unfolding position bits_at
bits_position zero x h = omega arith
bits_position (suc m) x h =
    let d = pow-suc 2 m in
    let l : x / 2 < 2 ^ m = omega arith in
    let i = bits_position m (x / 2) l in
    let b = position_lt m (x / 2) in
    parity x
    (λ e. rw (position_even m x e, bits_at_low m (position m (x / 2)) b, i) (omega arith))
    (λ o. rw (position_odd m x o, bits_at_high m (mirrored (suc m) (position m (x / 2))) (omega arith))
    (let same : mirrored (suc m) (mirrored (suc m) (position m (x / 2))) ≡ position m (x / 2) = omega arith in
    rw (same, i) (omega arith)))

pub position_bits : (m p : ℕ) → p < 2 ^ m → position m (bits_at m p) ≡ p
unfolding position bits_at
position_bits zero p h = omega arith
position_bits (suc m) p h =
    let d = pow-suc 2 m in
    by_cases (dec_lt p (2 ^ m))
    (λ l.
    let i = position_bits m p l in
    let x : bits_at (suc m) p / 2 ≡ bits_at m p = rw (bits_at_low m p l) (omega arith) in
    let e : bits_at (suc m) p % 2 ≡ 0 = rw (bits_at_low m p l) (omega arith) in
    position_even m (bits_at (suc m) p) e ∙ ap (position m) x ∙ i)
    (λ n.
    let g : 2 ^ m ≤ p = omega arith in
    let i = position_bits m (mirrored (suc m) p) (omega arith) in
    let x : bits_at (suc m) p / 2 ≡ bits_at m (mirrored (suc m) p) = rw (bits_at_high m p g) (omega arith) in
    let o : bits_at (suc m) p % 2 ≡ 1 = rw (bits_at_high m p g) (omega arith) in
    position_odd m (bits_at (suc m) p) o ∙ ap (λ (y : ℕ). mirrored (suc m) (position m y)) x ∙ ap (mirrored (suc m)) i ∙ omega arith)

-- ---- only the m lowest bits count

pub position_mod : (m x : ℕ) → position m (x % 2 ^ m) ≡ position m x
unfolding position
position_mod zero x = refl
position_mod (suc m) x =
    let d = pow-suc 2 m in
    let one : x % 2 ^ suc m % 2 ≡ x % 2 = rw (add-one m) at (mod-mod-pow x m 1) in
    let two : x % 2 ^ suc m / 2 ≡ x / 2 % 2 ^ m = rw (add-one m) at (field x m 1) in
    rw (one, two, position_mod m (x / 2)) refl

-- ---- a position of one bit more, halved

pub half : (m x : ℕ) → position (suc m) x / 2 ≡ position m x
unfolding position
half zero x = parity x (λ e. rw (position_even 0 x e) refl) (λ o. rw (position_odd 0 x o) refl)
half (suc m) x =
    let d = pow-suc 2 m in
    let dd = pow-suc 2 (suc m) in
    let i = half m (x / 2) in
    let b = position_lt (suc m) (x / 2) in
    parity x
    (λ e. rw (position_even (suc m) x e, position_even m x e) i)
    (λ o. rw (position_odd (suc m) x o, position_odd m x o) (omega arith))

pub narrower : (m k x : ℕ) → position (m + k) x / 2 ^ k ≡ position m x
narrower m zero x = rw (add-zero m) (omega arith)
narrower m (suc k) x =
    let n = position (suc (m + k)) x in
    let e : n / 2 / 2 ^ k ≡ n / 2 ^ suc k = rw (one-add k) at (shr-shr n 1 k) in
    rw (add-suc m k, ← e, half (m + k) x) (narrower m k x)

-- ---- bits above that are 0

-- the parity of a mirror image
mirror_even : (a q : ℕ) → q < a → q % 2 ≡ 0 → (a * 2 - 1 - q) % 2 ≡ 1
mirror_even a q h e =
    let k : a * 2 - 1 - q ≡ 2 * (a - 1 - q / 2) + 1 = omega arith in
    omega arith

mirror_odd : (a q : ℕ) → q < a → q % 2 ≡ 1 → (a * 2 - 1 - q) % 2 ≡ 0
mirror_odd a q h e =
    let k : a * 2 - 1 - q ≡ 2 * (a - 1 - q / 2) = omega arith in
    omega arith

mirror_double : (a q : ℕ) → q < a → a * 2 * 2 - 1 - (2 * q + q % 2) ≡ 2 * (a * 2 - 1 - q) + (a * 2 - 1 - q) % 2
mirror_double a q h =
    parity q
    (λ e. let t = mirror_even a q h e in omega arith)
    (λ o. let t = mirror_odd a q h o in omega arith)

double : (m x : ℕ) → x < 2 ^ m → position (suc m) x ≡ 2 * position m x + position m x % 2
unfolding position
double zero x h =
    let z : x ≡ 0 = omega arith in
    subst (λ (y : ℕ). position 1 y ≡ 0) (sym z) refl
double (suc m) x h =
    let d = pow-suc 2 m in
    let i = double m (x / 2) (omega arith) in
    let b = position_lt m (x / 2) in
    parity x
    (λ e. rw (position_even (suc m) x e, position_even m x e) i)
    (λ o. rw (position_odd (suc m) x o, position_odd m x o, i, pow-suc 2 (suc m), pow-suc 2 m) (mirror_double (2 ^ m) (position m (x / 2)) b))

-- the position among k bits more
wider_even : (m k x : ℕ) → x < 2 ^ m → position m x % 2 ≡ 0 → (position (m + k) x ≡ position m x * 2 ^ k) × (position (m + k) x % 2 ≡ 0)
wider_even m zero x h e = rw (add-zero m) (omega arith, e)
wider_even m (suc k) x h e =
    let i = wider_even m k x h e in
    let d : position (suc (m + k)) x ≡ 2 * position (m + k) x + position (m + k) x % 2 = double (m + k) x (lt_of_lt_of_le h (pow_mono (le-add_right m k))) in
    rw (add-suc m k, pow-suc 2 k, ← mul_assoc (position m x) (2 ^ k) 2) (omega (arith, i.0, i.1), omega (arith, i.1))

wider_odd : (m k x : ℕ) → x < 2 ^ m → position m x % 2 ≡ 1 → (position (m + k) x + 1 ≡ (position m x + 1) * 2 ^ k) × (position (m + k) x % 2 ≡ 1)
wider_odd m zero x h e = rw (add-zero m) (omega arith, e)
wider_odd m (suc k) x h e =
    let i = wider_odd m k x h e in
    let d : position (suc (m + k)) x ≡ 2 * position (m + k) x + position (m + k) x % 2 = double (m + k) x (lt_of_lt_of_le h (pow_mono (le-add_right m k))) in
    rw (add-suc m k, pow-suc 2 k, ← mul_assoc (position m x + 1) (2 ^ k) 2) (omega (arith, i.0, i.1), omega (arith, i.1))

pub wider : (m k x : ℕ) → x < 2 ^ m → position (m + k) x ≡ widened k (position m x)
wider m k x h =
    parity (position m x)
    (λ e. rw (eq-eqb (position m x % 2) 0 e) (wider_even m k x h e).0)
    (λ o. rw (ne_eqb (position m x % 2) 0 (λ e. omega arith)) (omega (arith, (wider_odd m k x h o).0)))

pub widened_lt : (m k p : ℕ) → p < 2 ^ m → widened k p < 2 ^ (m + k)
widened_lt m k p h = subst (λ (q : ℕ). widened k q < 2 ^ (m + k)) (position_bits m p h) (subst (λ (q : ℕ). q < 2 ^ (m + k)) (wider m k (bits_at m p) (bits_at_lt m p h)) (position_lt (m + k) (bits_at m p)))

pub bits_at_wider : (m k p : ℕ) → p < 2 ^ m → bits_at (m + k) (widened k p) ≡ bits_at m p
bits_at_wider m k p h =
    let x = bits_at m p in
    let l = bits_at_lt m p h in
    ap (λ (q : ℕ). bits_at (m + k) (widened k q)) (sym (position_bits m p h)) ∙ ap (bits_at (m + k)) (sym (wider m k x l))
    ∙ bits_position (m + k) x (lt_of_lt_of_le l (pow_mono (le-add_right m k)))

-- ---- positions of up to seven bits among those of seven

module _ (b p : ℕ) (few : b ≤ 7) (l : p < 2 ^ b) where
  all_seven : b + (7 - b) ≡ 7
  all_seven = omega arith

  wide_lt : widened (7 - b) p < 128
  wide_lt = subst (λ (n : ℕ). widened (7 - b) p < 2 ^ n) all_seven (widened_lt b (7 - b) p l)

  wide_same : bits_at 7 (widened (7 - b) p) ≡ bits_at b p
  wide_same = subst (λ (n : ℕ). bits_at n (widened (7 - b) p) ≡ bits_at b p) all_seven (bits_at_wider b (7 - b) p l)

  pub even_lt : p % 2 ≡ 0 → p * 2 ^ (7 - b) < 128
  even_lt e = rw (eq-eqb (p % 2) 0 e) at wide_lt

  pub even_same : p % 2 ≡ 0 → bits_at 7 (p * 2 ^ (7 - b)) ≡ bits_at b p
  even_same e = rw (eq-eqb (p % 2) 0 e) at wide_same

  pub odd_lt : (p % 2 ≡ 0 → ⊥) → (p + 1) * 2 ^ (7 - b) - 1 < 128
  odd_lt n = rw (ne_eqb (p % 2) 0 n) at wide_lt

  pub odd_same : (p % 2 ≡ 0 → ⊥) → bits_at 7 ((p + 1) * 2 ^ (7 - b) - 1) ≡ bits_at b p
  odd_same n = rw (ne_eqb (p % 2) 0 n) at wide_same
