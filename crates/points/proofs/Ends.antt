-- The ends of a coordinate's range, over the load: none lies further out, and values reach both. Assumes nothing.
use Prim.Native.Nat.{ℕ, ◌+◌, ◌-◌, ◌*◌, ◌/◌, ◌%◌, ◌^◌, ◌<◌, ◌≤◌}
use mathlib.Core.Path.{◌≡◌, refl, sym, ◌∙◌}
use mathlib.Core.Bool.{true}
use native.Mathlib.Omega.{arith}
use lib.Pow.{pow_pos}
use lib.IntN.{ℤ, pos, nat_abs}
use Rattle.gray.specs.Gray.{signed}
use Rattle.gray.specs.Positions.{is_gray}
use Rattle.gray.proofs.GrayLaws.{gray_in, pow_even}
use Rattle.points.specs.declared.Point.{Point}
use Rattle.points.specs.Points.{at, point_of, furthest}
use Rattle.points.specs.Made.{Made}
use Rattle.points.specs.Back.{in_square, inside, back}
use Rattle.points.proofs.CrossLaws.{in_cross_lem, cross_in, nat_abs_signed}
use Rattle.points.proofs.PointLaws.{is_gray_value, square_x, square_y}
use Rattle.points.proofs.BackLaws.{Covered, by_rule, one_bit, even_bits, odd_bits, some_even, some_odd, point_one, inside_one, inside_even, inside_odd, point_inside, back_lt, back_point}

module _ (m : ℕ) where
  furthest_one : m ≡ 1 → furthest m ≡ 1
  unfolding furthest
  furthest_one e = one_bit m 1 (2 ^ (m / 2) - 1) (3 * 2 ^ (m / 2 - 1) - 1) e

  furthest_even : (m ≡ 1 → ⊥) → m % 2 ≡ 0 → furthest m ≡ 2 ^ (m / 2) - 1
  unfolding furthest
  furthest_even o e = even_bits m 1 (2 ^ (m / 2) - 1) (3 * 2 ^ (m / 2 - 1) - 1) o e

  furthest_odd : (m ≡ 1 → ⊥) → (m % 2 ≡ 0 → ⊥) → furthest m ≡ 3 * 2 ^ (m / 2 - 1) - 1
  unfolding furthest
  furthest_odd o e = odd_bits m 1 (2 ^ (m / 2) - 1) (3 * 2 ^ (m / 2 - 1) - 1) o e

-- ---- none lies further out

module _ (m : ℕ) (k : Covered m) (v : ℕ) where
  pub within_x : nat_abs (point_of m v).x ≤ furthest m
  within_x =
      let i = point_inside m k v in
      by_rule m
      (λ e. rw (furthest_one m e, point_one m v e) (omega (arith, gray_in 1 v)))
      (λ o e. rw (furthest_even m o e) (omega (arith, square_x (m / 2) (some_even m k e) (point_of m v) (sym (inside_even m (point_of m v) o e) ∙ i))))
      (λ o e. rw (furthest_odd m o e) (omega (arith, (in_cross_lem (2 ^ (m / 2 - 1)) (point_of m v) (sym (inside_odd m (point_of m v) o e) ∙ i)).in_x)))

  pub within_y : nat_abs (point_of m v).y ≤ furthest m
  within_y =
      let i = point_inside m k v in
      by_rule m
      (λ e. rw (furthest_one m e, point_one m v e) (omega arith))
      (λ o e. rw (furthest_even m o e) (omega (arith, square_y (m / 2) (some_even m k e) (point_of m v) (sym (inside_even m (point_of m v) o e) ∙ i))))
      (λ o e. rw (furthest_odd m o e) (omega (arith, (in_cross_lem (2 ^ (m / 2 - 1)) (point_of m v) (sym (inside_odd m (point_of m v) o e) ∙ i)).in_y)))

odd_of : (s : ℕ) → s % 2 ≡ 0 → 0 < s → (3 * s - 1) % 2 ≡ 1
odd_of s e z =
    let k : s ≡ 2 * (s / 2) = omega arith in
    let l : 3 * s - 1 ≡ 2 * (3 * (s / 2) - 1) + 1 = omega arith in
    omega arith

square_of_lem : (n : ℕ) (q : Point) → is_gray n q.x ≡ true → is_gray n q.y ≡ true → in_square n q ≡ true
unfolding in_square
square_of_lem n q a b = rw (a, b) refl

-- ---- values reach both ends: c says which, by its sign

module _ (m : ℕ) (k : Covered m) (c : ℤ) where
  made : (q : Point) → inside m q ≡ true → Made m q
  made q t = (back m q, back_lt m k q t, back_point m k q t)

  one_in : m ≡ 1 → inside m (at (signed c (furthest m)) (pos 0)) ≡ true
  one_in e =
      let a = nat_abs_signed c 1 in
      inside_one m (at (signed c (furthest m)) (pos 0)) e
      ∙ rw (furthest_one m e, is_gray_value 1 (signed c 1) (omega arith) (omega arith)) refl

  -- load 1
  pub reached_one : m ≡ 1 → Made m (at (signed c (furthest m)) (pos 0))
  reached_one e = made (at (signed c (furthest m)) (pos 0)) (one_in e)

  even_in : (m ≡ 1 → ⊥) → m % 2 ≡ 0 → is_gray (m / 2) (signed c (furthest m)) ≡ true
  even_in o e =
      let n = m / 2 in
      let h = pow_even n (some_even m k e) in
      let z = pow_pos n in
      let a = nat_abs_signed c (2 ^ n - 1) in
      rw (furthest_even m o e) (is_gray_value n (signed c (2 ^ n - 1)) (omega arith) (omega arith))

  even_one : m % 2 ≡ 0 → is_gray (m / 2) (pos 1) ≡ true
  even_one e =
      let h = pow_even (m / 2) (some_even m k e) in
      let z = pow_pos (m / 2) in
      is_gray_value (m / 2) (pos 1) refl (omega arith)

  -- of the cross: the far end of one axis, one step from the other
  far : (m ≡ 1 → ⊥) → (m % 2 ≡ 0 → ⊥) → (nat_abs (signed c (furthest m)) ≡ 3 * 2 ^ (m / 2 - 1) - 1) × ((3 * 2 ^ (m / 2 - 1) - 1) % 2 ≡ 1) × (2 ≤ 2 ^ (m / 2 - 1))
  far o e =
      let s = 2 ^ (m / 2 - 1) in
      let g = some_odd m k o e in
      let h = pow_even (m / 2 - 1) (omega arith) in
      let z = pow_pos (m / 2 - 1) in
      (nat_abs_signed c (furthest m) ∙ furthest_odd m o e, odd_of s h z, omega arith)

  -- the first coordinate, from load 2 on
  pub reached_x : (m ≡ 1 → ⊥) → Made m (at (signed c (furthest m)) (pos 1))
  reached_x o =
      let q = at (signed c (furthest m)) (pos 1) in
      made q
      (by_rule m (λ e. absurd (o e))
      (λ _ e. inside_even m q o e ∙ square_of_lem (m / 2) q (even_in o e) (even_one e))
      (λ _ e.
      let f = far o e in
      inside_odd m q o e
      ∙ cross_in (2 ^ (m / 2 - 1)) q (record {
        odd_x = rw f.0 f.1;
        odd_y = refl;
        in_x = omega (arith, f.0, f.2);
        in_y = omega (arith, f.2);
        corner = λ h. omega (arith, f.2);
      })))

  -- and the second
  pub reached_y : (m ≡ 1 → ⊥) → Made m (at (pos 1) (signed c (furthest m)))
  reached_y o =
      let q = at (pos 1) (signed c (furthest m)) in
      made q
      (by_rule m (λ e. absurd (o e))
      (λ _ e. inside_even m q o e ∙ square_of_lem (m / 2) q (even_one e) (even_in o e))
      (λ _ e.
      let f = far o e in
      inside_odd m q o e
      ∙ cross_in (2 ^ (m / 2 - 1)) q (record {
        odd_x = refl;
        odd_y = rw f.0 f.1;
        in_x = omega (arith, f.2);
        in_y = omega (arith, f.0, f.2);
        corner = λ h. omega (arith, f.2);
      })))
