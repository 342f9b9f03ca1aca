-- The cross rule, over any even s: it takes the rectangle's points onto the cross, one to one. Assumes nothing.
use Prim.Native.Nat.{ℕ, zero, suc, ◌+◌, ◌-◌, ◌*◌, ◌/◌, ◌%◌, ◌<◌, ◌≤◌}
use mathlib.Core.Path.{◌≡◌, refl, sym, ap, ◌∙◌}
use mathlib.Core.Bool.{Bool, true, ◌&&◌, ◌||◌}
use mathlib.Core.Logic.{by_cases}
use native.Mathlib.Omega.{arith}
use native.Mathlib.Decide.{dec_lt}
use lib.Dec.{eqb, ltb}
use lib.IntN.{ℤ, pos, negsuc, nat_abs}
use borrow.Author.Tests.{eq-eqb, lt-ltb, le-ltb, eqb-true, ltb-true}
use Rattle.counting.proofs.Bools.{and_left, and_right, or_true, or_false}
use Rattle.points.specs.declared.Point.{Point}
use Rattle.gray.specs.Gray.{signed}
use Rattle.points.specs.Points.{at, moved_outer, moved_inner, cross}
use Rattle.points.specs.Back.{in_cross, unmoved_outer, unmoved_inner, uncross}

-- ---- a sign and an absolute value

pub nat_abs_signed : (c : ℤ) (m : ℕ) → nat_abs (signed c m) ≡ m
nat_abs_signed (pos a) m = refl
nat_abs_signed (negsuc a) zero = refl
nat_abs_signed (negsuc a) (suc m) = refl

pub signed_self : (c : ℤ) → signed c (nat_abs c) ≡ c
signed_self (pos a) = refl
signed_self (negsuc a) = refl

pub signed_signed : (c : ℤ) (m k : ℕ) → 0 < m → signed (signed c m) k ≡ signed c k
signed_signed (pos a) m k h = refl
signed_signed (negsuc a) zero k h = absurd (omega arith)
signed_signed (negsuc a) (suc m) k h = refl

-- back to the absolute value that was there
again : {c : ℤ} {m k : ℕ} → 0 < m → k ≡ nat_abs c → signed (signed c m) k ≡ c
again {c} {m} {k} h e = signed_signed c m k h ∙ ap (signed c) e ∙ signed_self c

both : {x y v w : ℤ} → x ≡ v → y ≡ w → at x y ≡ at v w
both d e = λ i. at (d i) (e i)

-- ---- the rule, case by case

module _ (s : ℕ) (i q : ℤ) where
  pub stays : nat_abs i < 3 * s → cross s i q ≡ at i q
  unfolding cross
  stays h = rw (lt-ltb (nat_abs i) (3 * s) h) refl

  pub side : 3 * s ≤ nat_abs i → s < nat_abs q → cross s i q ≡ moved_outer s i q
  unfolding cross
  side h g = rw (le-ltb (nat_abs i) (3 * s) h, lt-ltb s (nat_abs q) g) refl

  pub over : 3 * s ≤ nat_abs i → nat_abs q ≤ s → cross s i q ≡ moved_inner s i q
  unfolding cross
  over h g = rw (le-ltb (nat_abs i) (3 * s) h, le-ltb s (nat_abs q) g) refl

module _ (s : ℕ) (x y : ℤ) where
  pub un_stays : nat_abs y < 2 * s → uncross s (at x y) ≡ at x y
  unfolding uncross
  un_stays h = rw (lt-ltb (nat_abs y) (2 * s) h) refl

  pub un_side : 2 * s ≤ nat_abs y → s < nat_abs x → uncross s (at x y) ≡ unmoved_outer s (at x y)
  unfolding uncross
  un_side h g = rw (le-ltb (nat_abs y) (2 * s) h, lt-ltb s (nat_abs x) g) refl

  pub un_over : 2 * s ≤ nat_abs y → nat_abs x ≤ s → uncross s (at x y) ≡ unmoved_inner s (at x y)
  unfolding uncross
  un_over h g = rw (le-ltb (nat_abs y) (2 * s) h, le-ltb s (nat_abs x) g) refl

-- ---- the rectangle and the cross, in absolute values

pub record Rectangle (s : ℕ) (p : Point) : Type 0 where
  pub odd_x : nat_abs p.x % 2 ≡ 1
  pub odd_y : nat_abs p.y % 2 ≡ 1
  pub in_x : nat_abs p.x < 4 * s
  pub in_y : nat_abs p.y < 2 * s

pub record Cross (s : ℕ) (p : Point) : Type 0 where
  pub odd_x : nat_abs p.x % 2 ≡ 1
  pub odd_y : nat_abs p.y % 2 ≡ 1
  pub in_x : nat_abs p.x < 3 * s
  pub in_y : nat_abs p.y < 3 * s
  pub corner : 2 * s ≤ nat_abs p.y → nat_abs p.x < 2 * s

-- what the test of the cross says
pub in_cross_lem : (s : ℕ) (p : Point) → in_cross s p ≡ true → Cross s p
unfolding in_cross
in_cross_lem s p t =
    let a = eqb (nat_abs p.x % 2) 1 in
    let b = eqb (nat_abs p.y % 2) 1 in
    let c = ltb (nat_abs p.x) (3 * s) in
    let d = ltb (nat_abs p.y) (3 * s) in
    let e = ltb (nat_abs p.x) (2 * s) in
    let f = ltb (nat_abs p.y) (2 * s) in
    let t1 = and_left (a && b && c && d) (e || f) t in
    let t2 = and_left (a && b && c) d t1 in
    let t3 = and_left (a && b) c t2 in
    record {
      odd_x = eqb-true (nat_abs p.x % 2) 1 (and_left a b t3);
      odd_y = eqb-true (nat_abs p.y % 2) 1 (and_right a b t3);
      in_x = ltb-true (nat_abs p.x) (3 * s) (and_right (a && b) c t2);
      in_y = ltb-true (nat_abs p.y) (3 * s) (and_right (a && b && c) d t1);
      corner = λ h. ltb-true (nat_abs p.x) (2 * s) (sym (or_false e) ∙ ap (λ (g : Bool). e || g) (sym (le-ltb (nat_abs p.y) (2 * s) h)) ∙ and_right (a && b && c && d) (e || f) t);
    }

pub cross_in : (s : ℕ) (p : Point) → Cross s p → in_cross s p ≡ true
unfolding in_cross
cross_in s p c =
    rw (eq-eqb (nat_abs p.x % 2) 1 c.odd_x, eq-eqb (nat_abs p.y % 2) 1 c.odd_y, lt-ltb (nat_abs p.x) (3 * s) c.in_x, lt-ltb (nat_abs p.y) (3 * s) c.in_y)
    (by_cases (dec_lt (nat_abs p.y) (2 * s))
    (λ l. rw (lt-ltb (nat_abs p.y) (2 * s) l) (or_true (ltb (nat_abs p.x) (2 * s))))
    (λ n. rw (lt-ltb (nat_abs p.x) (2 * s) (c.corner (omega arith))) refl))

-- ---- onto the cross, and back

beyond : (s a : ℕ) → s % 2 ≡ 0 → a % 2 ≡ 1 → 3 * s ≤ a → 3 * s < a
beyond s a e o h =
    let k : s ≡ 2 * (s / 2) = omega arith in
    let l : a ≡ 2 * (a / 2) + 1 = omega arith in
    let c : 3 * (s / 2) ≤ a / 2 = omega arith in
    omega arith

within : (s a : ℕ) → s % 2 ≡ 0 → a % 2 ≡ 1 → a ≤ s → a < s
within s a e o h =
    let k : s ≡ 2 * (s / 2) = omega arith in
    let l : a ≡ 2 * (a / 2) + 1 = omega arith in
    let c : a / 2 + 1 ≤ s / 2 = omega arith in
    omega arith

module _ (s : ℕ) (even : s % 2 ≡ 0) where
  -- the numbers of both ways, at a point of the rectangle
  pub onto : (i q : ℤ) → Rectangle s (at i q) → Cross s (cross s i q) × (uncross s (cross s i q) ≡ at i q)
  onto i q r =
      let ox : nat_abs i % 2 ≡ 1 = r.odd_x in
      let oy : nat_abs q % 2 ≡ 1 = r.odd_y in
      let bx : nat_abs i < 4 * s = r.in_x in
      let by : nat_abs q < 2 * s = r.in_y in
      by_cases (dec_lt (nat_abs i) (3 * s))
      (λ l. rw (stays s i q l) (record { odd_x = ox; odd_y = oy; in_x = l; in_y = omega arith; corner = λ h. omega arith }, un_stays s i q by))
      (λ n.
      let f : 3 * s ≤ nat_abs i = omega arith in
      by_cases (dec_lt s (nat_abs q))
      (λ g.
      let p = moved_outer s i q in
      let ax : nat_abs p.x ≡ nat_abs i - 2 * s = rw nat_abs_signed refl in
      let ay : nat_abs p.y ≡ 4 * s - nat_abs q = rw nat_abs_signed refl in
      rw (side s i q f g) (
        record { odd_x = omega arith; odd_y = omega arith; in_x = omega arith; in_y = omega arith; corner = λ h. omega arith },
        un_side s p.x p.y (omega arith) (omega (arith, beyond s (nat_abs i) even ox f)) ∙ both (again (omega arith) (omega arith)) (again (omega arith) (omega arith)),
      ))
      (λ k.
      let g : nat_abs q ≤ s = omega arith in
      let p = moved_inner s i q in
      let ax : nat_abs p.x ≡ 4 * s - nat_abs i = rw nat_abs_signed refl in
      let ay : nat_abs p.y ≡ nat_abs q + 2 * s = rw nat_abs_signed refl in
      rw (over s i q f g) (
        record { odd_x = omega arith; odd_y = omega arith; in_x = omega arith; in_y = omega (arith, within s (nat_abs q) even oy g); corner = λ h. omega arith },
        un_over s p.x p.y (omega arith) (omega arith) ∙ both (again (omega arith) (omega arith)) (again (omega arith) (omega arith)),
      )))

  pub from : (p : Point) → Cross s p → Rectangle s (uncross s p) × (cross s (uncross s p).x (uncross s p).y ≡ p)
  from p c =
      let x = p.x in
      let y = p.y in
      let ox : nat_abs x % 2 ≡ 1 = c.odd_x in
      let oy : nat_abs y % 2 ≡ 1 = c.odd_y in
      let bx : nat_abs x < 3 * s = c.in_x in
      let by : nat_abs y < 3 * s = c.in_y in
      by_cases (dec_lt (nat_abs y) (2 * s))
      (λ l. rw (un_stays s x y l) (record { odd_x = ox; odd_y = oy; in_x = omega arith; in_y = l }, stays s x y bx))
      (λ n.
      let f : 2 * s ≤ nat_abs y = omega arith in
      let cx : nat_abs x < 2 * s = c.corner f in
      by_cases (dec_lt s (nat_abs x))
      (λ g.
      let r = unmoved_outer s p in
      let ai : nat_abs r.x ≡ nat_abs x + 2 * s = rw nat_abs_signed refl in
      let aq : nat_abs r.y ≡ 4 * s - nat_abs y = rw nat_abs_signed refl in
      rw (un_side s x y f g) (
        record { odd_x = omega arith; odd_y = omega arith; in_x = omega arith; in_y = omega arith },
        side s r.x r.y (omega arith) (omega arith) ∙ both (again (omega arith) (omega arith)) (again (omega arith) (omega arith)),
      ))
      (λ k.
      let g : nat_abs x ≤ s = omega arith in
      let r = unmoved_inner s p in
      let ai : nat_abs r.x ≡ 4 * s - nat_abs x = rw nat_abs_signed refl in
      let aq : nat_abs r.y ≡ nat_abs y - 2 * s = rw nat_abs_signed refl in
      rw (un_over s x y f g) (
        record { odd_x = omega arith; odd_y = omega arith; in_x = omega arith; in_y = omega arith },
        over s r.x r.y (omega arith) (omega arith) ∙ both (again (omega arith) (omega arith)) (again (omega arith) (omega arith)),
      )))
