-- Points of 2n and of 2n + 1 bits, over n: they lie in the square or in the cross, and the bits come back. Assumes nothing.
use Prim.Native.Nat.{ℕ, suc, ◌+◌, ◌-◌, ◌*◌, ◌/◌, ◌%◌, ◌^◌, ◌<◌, ◌≤◌}
use mathlib.Core.Path.{◌≡◌, refl, ap}
use mathlib.Core.Bool.{true}
use mathlib.Core.Logic.{by_cases}
use native.Mathlib.Omega.{arith}
use native.Mathlib.Decide.{ℕ_discrete}
use native.Mathlib.Nat.{pow-suc, mod-lt, mul-le-mul_right, suc-mul}
use lib.Dec.{eqb, ltb}
use lib.IntN.{ℤ, nat_abs}
use lib.Pow.{pow_pos, pow-add, shr_lt, split, high, low}
use borrow.Author.Tests.{eq-eqb, lt-ltb, eqb-true, ltb-true}
use Rattle.counting.proofs.Bools.{and_left, and_right}
use Rattle.points.specs.declared.Point.{Point}
use Rattle.gray.specs.Gray.{gray}
use Rattle.points.specs.Points.{at, even_point, cross, odd_point}
use Rattle.gray.specs.Positions.{is_gray, bits_of}
use Rattle.points.specs.Back.{in_square, unsquare, in_cross, uncross, unrectangle}
use Rattle.gray.proofs.GrayLaws.{gray_odd, gray_in, bits_of_gray, gray_bits_of, bits_of_lt, pow_even}
use Rattle.points.proofs.CrossLaws.{Rectangle, Cross, in_cross_lem, cross_in, onto, from}

-- ---- the test of a Gray value

pub is_gray_value : (m : ℕ) (c : ℤ) → nat_abs c % 2 ≡ 1 → nat_abs c < 2 ^ m → is_gray m c ≡ true
unfolding is_gray
is_gray_value m c o h = rw (eq-eqb (nat_abs c % 2) 1 o, lt-ltb (nat_abs c) (2 ^ m) h) refl

pub gray_value_odd : (m : ℕ) (c : ℤ) → is_gray m c ≡ true → nat_abs c % 2 ≡ 1
unfolding is_gray
gray_value_odd m c t = eqb-true (nat_abs c % 2) 1 (and_left (eqb (nat_abs c % 2) 1) (ltb (nat_abs c) (2 ^ m)) t)

pub gray_value_in : (m : ℕ) (c : ℤ) → is_gray m c ≡ true → nat_abs c < 2 ^ m
unfolding is_gray
gray_value_in m c t = ltb-true (nat_abs c) (2 ^ m) (and_right (eqb (nat_abs c % 2) 1) (ltb (nat_abs c) (2 ^ m)) t)

pub gray_is_value : (m x : ℕ) → 0 < m → is_gray m (gray m x) ≡ true
gray_is_value m x h = is_gray_value m (gray m x) (gray_odd m x h) (gray_in m x)

-- a number in two parts
pub sum_lt : (j n a b : ℕ) → b < 2 ^ j → a < 2 ^ n → b * 2 ^ n + a < 2 ^ (j + n)
sum_lt j n a b g h = omega (arith, mul-le-mul_right (2 ^ n) g, suc-mul b (2 ^ n), pow-add 2 j n)

-- ---- 2n bits

module _ (n : ℕ) (some : 0 < n) where
  pub square_in : (v : ℕ) → in_square n (even_point n v) ≡ true
  unfolding in_square even_point
  square_in v = rw (gray_is_value n (v % 2 ^ n) some, gray_is_value n (v / 2 ^ n) some) refl

  pub square_back : (v : ℕ) → v < 2 ^ (n + n) → unsquare n (even_point n v) ≡ v
  unfolding unsquare even_point
  square_back v h =
      rw (bits_of_gray n (v / 2 ^ n) (shr_lt n n h), bits_of_gray n (v % 2 ^ n) (mod-lt v (pow_pos n))) (split v n)

  pub unsquare_lt : (p : Point) → in_square n p ≡ true → unsquare n p < 2 ^ (n + n)
  unfolding unsquare in_square
  unsquare_lt p t =
      sum_lt n n (bits_of n p.x) (bits_of n p.y)
      (bits_of_lt n p.y (gray_value_in n p.y (and_right (is_gray n p.x) (is_gray n p.y) t)))
      (bits_of_lt n p.x (gray_value_in n p.x (and_left (is_gray n p.x) (is_gray n p.y) t)))

  pub square_x : (p : Point) → in_square n p ≡ true → nat_abs p.x < 2 ^ n
  unfolding in_square
  square_x p t = gray_value_in n p.x (and_left (is_gray n p.x) (is_gray n p.y) t)

  pub square_y : (p : Point) → in_square n p ≡ true → nat_abs p.y < 2 ^ n
  unfolding in_square
  square_y p t = gray_value_in n p.y (and_right (is_gray n p.x) (is_gray n p.y) t)

  pub back_square : (p : Point) → in_square n p ≡ true → even_point n (unsquare n p) ≡ p
  unfolding unsquare in_square even_point
  back_square p t =
      let tx = and_left (is_gray n p.x) (is_gray n p.y) t in
      let ty = and_right (is_gray n p.x) (is_gray n p.y) t in
      let a = bits_of n p.x in
      let b = bits_of n p.y in
      let l : a < 2 ^ n = bits_of_lt n p.x (gray_value_in n p.x tx) in
      rw (
        high b n l,
        low b n l,
        gray_bits_of n p.x some (gray_value_odd n p.x tx) (gray_value_in n p.x tx),
        gray_bits_of n p.y some (gray_value_odd n p.y ty) (gray_value_in n p.y ty),
      ) refl

-- ---- 2n + 1 bits

-- s = 2^(n-1) is even, 2s = 2^n and 4s = 2^(n+1)
half_even : (n : ℕ) → 1 < n → 2 ^ (n - 1) % 2 ≡ 0
half_even n h = pow_even (n - 1) (omega arith)

pub twice : (n : ℕ) → 0 < n → 2 * 2 ^ (n - 1) ≡ 2 ^ n
twice n h =
    let e : n ≡ suc (n - 1) = omega arith in
    omega (arith, ap (λ (k : ℕ). 2 ^ k) e, pow-suc 2 (n - 1))

module _ (n : ℕ) (some : 1 < n) where
  rectangle : (v : ℕ) → Rectangle (2 ^ (n - 1)) (at (gray (suc n) (v / 2 ^ n)) (gray n (v % 2 ^ n)))
  rectangle v =
      let t = twice n (omega arith) in
      let d = pow-suc 2 n in
      record {
        odd_x = gray_odd (suc n) (v / 2 ^ n) (omega arith);
        odd_y = gray_odd n (v % 2 ^ n) (omega arith);
        in_x = omega (arith, gray_in (suc n) (v / 2 ^ n));
        in_y = omega (arith, gray_in n (v % 2 ^ n));
      }

  moved : (v : ℕ) → Cross (2 ^ (n - 1)) (odd_point n v) × (uncross (2 ^ (n - 1)) (odd_point n v) ≡ at (gray (suc n) (v / 2 ^ n)) (gray n (v % 2 ^ n)))
  unfolding odd_point
  moved v = onto (2 ^ (n - 1)) (half_even n some) (gray (suc n) (v / 2 ^ n)) (gray n (v % 2 ^ n)) (rectangle v)

  pub odd_in : (v : ℕ) → in_cross (2 ^ (n - 1)) (odd_point n v) ≡ true
  odd_in v = cross_in (2 ^ (n - 1)) (odd_point n v) (moved v).0

  pub odd_back : (v : ℕ) → v < 2 ^ (suc n + n) → unrectangle n (uncross (2 ^ (n - 1)) (odd_point n v)) ≡ v
  unfolding unrectangle
  odd_back v h =
      rw ((moved v).1, bits_of_gray (suc n) (v / 2 ^ n) (shr_lt (suc n) n h), bits_of_gray n (v % 2 ^ n) (mod-lt v (pow_pos n))) (split v n)

  unmoved : (p : Point) → in_cross (2 ^ (n - 1)) p ≡ true
      → Rectangle (2 ^ (n - 1)) (uncross (2 ^ (n - 1)) p) × (cross (2 ^ (n - 1)) (uncross (2 ^ (n - 1)) p).x (uncross (2 ^ (n - 1)) p).y ≡ p)
  unmoved p t = from (2 ^ (n - 1)) (half_even n some) p (in_cross_lem (2 ^ (n - 1)) p t)

  pub unrectangle_lt : (p : Point) → in_cross (2 ^ (n - 1)) p ≡ true → unrectangle n (uncross (2 ^ (n - 1)) p) < 2 ^ (suc n + n)
  unfolding unrectangle
  unrectangle_lt p t =
      let r = uncross (2 ^ (n - 1)) p in
      let k = (unmoved p t).0 in
      let w = twice n (omega arith) in
      let d = pow-suc 2 n in
      sum_lt (suc n) n (bits_of n r.y) (bits_of (suc n) r.x)
      (bits_of_lt (suc n) r.x (omega (arith, k.in_x)))
      (bits_of_lt n r.y (omega (arith, k.in_y)))

  pub rectangle_x : (p : Point) → in_cross (2 ^ (n - 1)) p ≡ true → nat_abs (uncross (2 ^ (n - 1)) p).x < 2 ^ suc n
  rectangle_x p t =
      let w = twice n (omega arith) in
      let d = pow-suc 2 n in
      omega (arith, (unmoved p t).0.in_x)

  pub rectangle_y : (p : Point) → in_cross (2 ^ (n - 1)) p ≡ true → nat_abs (uncross (2 ^ (n - 1)) p).y < 2 ^ n
  rectangle_y p t =
      let w = twice n (omega arith) in
      omega (arith, (unmoved p t).0.in_y)

  pub back_odd : (p : Point) → in_cross (2 ^ (n - 1)) p ≡ true → odd_point n (unrectangle n (uncross (2 ^ (n - 1)) p)) ≡ p
  unfolding unrectangle odd_point
  back_odd p t =
      let r = uncross (2 ^ (n - 1)) p in
      let k = (unmoved p t).0 in
      let w = twice n (omega arith) in
      let d = pow-suc 2 n in
      let a = bits_of n r.y in
      let b = bits_of (suc n) r.x in
      let bx : nat_abs r.x < 2 ^ suc n = omega (arith, k.in_x) in
      let by : nat_abs r.y < 2 ^ n = omega (arith, k.in_y) in
      let l : a < 2 ^ n = bits_of_lt n r.y by in
      rw (high b n l, low b n l, gray_bits_of (suc n) r.x (omega arith) k.odd_x bx, gray_bits_of n r.y (omega arith) k.odd_y by) (unmoved p t).1

-- ---- an odd load above 1 has n from 1 to 6

pub odd_some : (m : ℕ) → 1 ≤ m → (m ≡ 1 → ⊥) → 0 < m / 2
odd_some m l g = by_cases (ℕ_discrete m 1) (λ e. absurd (g e)) (λ n. omega arith)

pub odd_most : (m : ℕ) → m ≤ 14 → (m % 2 ≡ 0 → ⊥) → m / 2 ≤ 6
odd_most m l h = by_cases (ℕ_discrete (m % 2) 0) (λ e. absurd (h e)) (λ n. omega arith)
