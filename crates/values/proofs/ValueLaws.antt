-- The search for the value that makes a point, and the claims of the way back. Assumes nothing.
use Prim.Native.Nat.{ℕ, ◌^◌, ◌<◌}
use mathlib.Core.Path.{◌≡◌, refl, sym, ap, ◌∙◌, subst}
use mathlib.Core.Bool.{true, false}
use Rattle.std.specs.Prelude.{Some, None, Ok}
use native.Mathlib.Omega.{arith}
use lib.IntN.{ℤ, pos, negsuc}
use borrow.Author.Tests.{eq-eqb, eqb-true}
use Rattle.counting.specs.Search.{lowest}
use Rattle.counting.proofs.Bools.{and_left, and_right, by_test, conflict}
use Rattle.counting.proofs.Laws.{none_lowest}
use Rattle.counting.proofs.Searches.{lowest_at}
use Rattle.points.specs.declared.Point.{Point}
use Rattle.points.specs.Points.{at, point_of, load_listed}
use Rattle.points.specs.Back.{inside, back}
use Rattle.points.specs.Made.{Made}
use Rattle.points.proofs.BackLaws.{Covered, covered, distinct, point_inside, point_back, back_lt, back_point}
use Rattle.points.proofs.Ends.{within_x, within_y, reached_one, reached_x, reached_y}
use Rattle.rules.specs.Refusals.{refused_by}
use Rattle.rules.proofs.Findings.{not_fine}
use Rattle.values.specs.Answers.{same_whole, makes, value_answer}
use Rattle.values.specs.Claims.{PointClaims}

-- ---- the search

pub same_true : (a b : ℤ) → same_whole a b ≡ true → a ≡ b
same_true (pos a) (pos b) t = ap pos (eqb-true a b t)
same_true (pos a) (negsuc b) t = absurd (conflict false t refl)
same_true (negsuc a) (pos b) t = absurd (conflict false t refl)
same_true (negsuc a) (negsuc b) t = ap negsuc (eqb-true a b t)

pub same_self : (a : ℤ) → same_whole a a ≡ true
same_self (pos a) = eq-eqb a a refl
same_self (negsuc a) = eq-eqb a a refl

module _ (m : ℕ) (p : Point) where
  makes_true : (v : ℕ) → makes m p v ≡ true → point_of m v ≡ p
  unfolding makes
  makes_true v t =
      let a = same_whole (point_of m v).x p.x in
      let b = same_whole (point_of m v).y p.y in
      let ex = same_true (point_of m v).x p.x (and_left a b t) in
      let ey = same_true (point_of m v).y p.y (and_right a b t) in
      λ i. at (ex i) (ey i)

  makes_it : (v : ℕ) → point_of m v ≡ p → makes m p v ≡ true
  unfolding makes
  makes_it v e = rw (e, same_self p.x, same_self p.y) refl

  -- no value but that of the way back makes the point
  other : Covered m → (j : ℕ) → j < 2 ^ m → j < back m p → point_of m j ≡ p → ⊥
  other k j l w e = omega (arith, sym (point_back m k j l) ∙ ap (back m) e)

  -- inside: the one value that makes the point
  pub one_value : Covered m → inside m p ≡ true → lowest (makes m p) (2 ^ m) ≡ Some (back m p)
  one_value k t =
      let v = back m p in
      let l = back_lt m k p t in
      lowest_at (makes m p) v (2 ^ m) l (makes_it v (back_point m k p t))
      (λ j z w. by_test (makes m p j) (λ y. absurd (other k j (omega arith) w (makes_true j y))) (λ n. n))

  -- outside: none does
  pub no_value : Covered m → inside m p ≡ false → lowest (makes m p) (2 ^ m) ≡ None
  no_value k t =
      none_lowest (makes m p) (2 ^ m)
      (λ j w. by_test (makes m p j) (λ y. absurd (conflict (inside m p) (subst (λ (q : Point). inside m q ≡ true) (makes_true j y) (point_inside m k j)) t)) (λ n. n))

-- ---- the claims

-- the answer at a point of the constellation
value_inside : (m : ℕ) (p : Point) → load_listed m ≡ true → inside m p ≡ true → value_answer m p ≡ Ok (back m p)
unfolding value_answer
value_inside m p t i = rw (t, one_value m p (covered m t) i) refl

way_back : (m v : ℕ) → load_listed m ≡ true → v < 2 ^ m → value_answer m (point_of m v) ≡ Ok v
way_back m v t h =
    let k = covered m t in
    value_inside m (point_of m v) t (point_inside m k v) ∙ ap Ok (point_back m k v h)

none_made : (m : ℕ) (p : Point) → load_listed m ≡ true → value_answer m p ≡ refused_by 24 0 → Made m p → ⊥
none_made m p t e made =
    not_fine (sym e ∙ sym (ap (value_answer m) made.2) ∙ way_back m made.0 t made.1)

pub point_claims : (m : ℕ) → load_listed m ≡ true → PointClaims m
point_claims m t =
    let k = covered m t in
    record {
      way_back = λ v h. way_back m v t h;
      no_value = λ p e made. none_made m p t e made;
      distinct = λ v w h g e. distinct m k v w h g e;
      within_x = λ v. within_x m k v;
      within_y = λ v. within_y m k v;
      one_bit = λ c e. reached_one m k c e;
      ends_x = λ c o. reached_x m k c o;
      ends_y = λ c o. reached_y m k c o;
    }
