-- On which side of the cross rule's tests a Gray value lies is seen from its bits, and each coordinate of the cross depends on the other's bits only
-- by that. Assumes nothing.
use Prim.Native.Nat.{ℕ, zero, suc, ◌+◌, ◌-◌, ◌*◌, ◌/◌, ◌%◌, ◌^◌, ◌<◌, ◌≤◌}
use mathlib.Core.Path.{◌≡◌, refl, ap, ◌∙◌}
use mathlib.Core.Logic.{by_cases}
use native.Mathlib.Omega.{arith}
use native.Mathlib.Decide.{dec_lt}
use native.Mathlib.Nat.{pow-suc}
use lib.IntN.{ℤ, pos, nat_abs}
use lib.Pow.{pow_pos}
use Rattle.gray.specs.Gray.{gray}
use Rattle.gray.specs.Positions.{position}
use Rattle.gray.proofs.Signs.{nat_abs_neg}
use Rattle.gray.proofs.PositionLaws.{position_even, position_odd, parity, position_lt}
use Rattle.gray.proofs.GrayLaws.{gray_up, gray_down}
use Rattle.points.specs.Points.{cross}
use Rattle.points.proofs.CrossLaws.{stays, side, over}

-- ---- the absolute value, from the position of the bits above the lowest

size : (m x : ℕ) → nat_abs (gray (suc m) x) ≡ 2 ^ suc m - 1 - 2 * position m (x / 2)
size m x =
    let d = pow-suc 2 m in
    let b = position_lt m (x / 2) in
    parity x
    (λ e. let p = position_even m x e in ap nat_abs (gray_up (suc m) x (omega arith)) ∙ omega arith)
    (λ o.
    let p = position_odd m x o in
    ap nat_abs (gray_down (suc m) x (omega arith)) ∙ nat_abs_neg (pos (2 * position (suc m) x + 1 - 2 ^ suc m)) ∙ omega arith)

-- the lowest bit says in which half a position stands
lower_half : (k x : ℕ) → x % 2 ≡ 0 → position (suc k) x < 2 ^ k
lower_half k x e = rw (position_even k x e) (position_lt k (x / 2))

upper_half : (k x : ℕ) → x % 2 ≡ 1 → 2 ^ k ≤ position (suc k) x
upper_half k x o = rw (position_odd k x o) (omega (arith, pow-suc 2 k, position_lt k (x / 2)))

-- ---- n bits, with s = 2^(n-1): past s where the second bit is 0

pub past_s : (n x : ℕ) → 1 < n → x / 2 % 2 ≡ 0 → 2 ^ (n - 1) < nat_abs (gray n x)
past_s zero x h e = absurd (omega arith)
past_s (suc zero) x h e = absurd (omega arith)
past_s (suc (suc k)) x h e =
    let m : suc (suc k) - 1 ≡ suc k = omega arith in
    rw m (omega (arith, size (suc k) x, lower_half k (x / 2) e, pow-suc 2 k, pow-suc 2 (suc k)))

pub within_s : (n x : ℕ) → 1 < n → x / 2 % 2 ≡ 1 → nat_abs (gray n x) ≤ 2 ^ (n - 1)
within_s zero x h o = absurd (omega arith)
within_s (suc zero) x h o = absurd (omega arith)
within_s (suc (suc k)) x h o =
    let m : suc (suc k) - 1 ≡ suc k = omega arith in
    rw m (omega (arith, size (suc k) x, upper_half k (x / 2) o, pow-suc 2 k, pow-suc 2 (suc k)))

-- ---- n + 1 bits: past 3s where the second and the third bit are 0

pub past_3s : (n x : ℕ) → 1 < n → x / 2 % 4 ≡ 0 → 3 * 2 ^ (n - 1) ≤ nat_abs (gray (suc n) x)
past_3s zero x h e = absurd (omega arith)
past_3s (suc zero) x h e = absurd (omega arith)
past_3s (suc (suc k)) x h e =
    let m : suc (suc k) - 1 ≡ suc k = omega arith in
    let p : position (suc (suc k)) (x / 2) ≡ position (suc k) (x / 2 / 2) = position_even (suc k) (x / 2) (omega arith) in
    rw m (omega (arith, size (suc (suc k)) x, lower_half k (x / 2 / 2) (omega arith), pow-suc 2 k, pow-suc 2 (suc k), pow-suc 2 (suc (suc k))))

pub within_3s : (n x : ℕ) → 1 < n → (x / 2 % 4 ≡ 0 → ⊥) → nat_abs (gray (suc n) x) < 3 * 2 ^ (n - 1)
within_3s zero x h g = absurd (omega arith)
within_3s (suc zero) x h g = absurd (omega arith)
within_3s (suc (suc k)) x h g =
    let m : suc (suc k) - 1 ≡ suc k = omega arith in
    let s = size (suc (suc k)) x in
    parity (x / 2)
    (λ e. parity (x / 2 / 2)
    (λ f. absurd (g (omega arith)))
    (λ o.
    let p : position (suc (suc k)) (x / 2) ≡ position (suc k) (x / 2 / 2) = position_even (suc k) (x / 2) e in
    rw m (omega (arith, pow_pos k, upper_half k (x / 2 / 2) o, pow-suc 2 k, pow-suc 2 (suc k), pow-suc 2 (suc (suc k))))))
    (λ o. rw m (omega (arith, pow_pos (suc k), upper_half (suc k) (x / 2) o, pow-suc 2 (suc k), pow-suc 2 (suc (suc k)))))

-- ---- the cross rule takes no more than the side from the other coordinate

module _ (s : ℕ) (i : ℤ) where
  pub x_past : (q r : ℤ) → s < nat_abs q → s < nat_abs r → (cross s i q).x ≡ (cross s i r).x
  x_past q r h g =
      by_cases (dec_lt (nat_abs i) (3 * s)) (λ l. rw (stays s i q l, stays s i r l) refl)
      (λ n. let f : 3 * s ≤ nat_abs i = omega arith in rw (side s i q f h, side s i r f g) refl)

  pub x_within : (q r : ℤ) → nat_abs q ≤ s → nat_abs r ≤ s → (cross s i q).x ≡ (cross s i r).x
  x_within q r h g =
      by_cases (dec_lt (nat_abs i) (3 * s)) (λ l. rw (stays s i q l, stays s i r l) refl)
      (λ n. let f : 3 * s ≤ nat_abs i = omega arith in rw (over s i q f h, over s i r f g) refl)

module _ (s : ℕ) (q : ℤ) where
  pub y_past : (i k : ℤ) → 3 * s ≤ nat_abs i → 3 * s ≤ nat_abs k → (cross s i q).y ≡ (cross s k q).y
  y_past i k h g =
      by_cases (dec_lt s (nat_abs q)) (λ l. rw (side s i q h l, side s k q g l) refl)
      (λ n. let f : nat_abs q ≤ s = omega arith in rw (over s i q h f, over s k q g f) refl)

  pub y_within : (i k : ℤ) → nat_abs i < 3 * s → nat_abs k < 3 * s → (cross s i q).y ≡ (cross s k q).y
  y_within i k h g = rw (stays s i q h, stays s k q g) refl
