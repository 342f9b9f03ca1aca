-- The way back, over the load: a point of the constellation has one value, and a point outside it none. Assumes nothing.
use Prim.Native.Nat.{ℕ, suc, ◌+◌, ◌-◌, ◌/◌, ◌%◌, ◌^◌, ◌<◌, ◌≤◌}
use mathlib.Core.Path.{◌≡◌, refl, sym, ap, ◌∙◌, subst}
use mathlib.Core.Bool.{true, false, ◌&&◌}
use mathlib.Core.Logic.{by_cases}
use native.Mathlib.Omega.{arith}
use native.Mathlib.Decide.{dec_le, ℕ_discrete}
use lib.Dec.{eqb, ltb}
use lib.IntN.{ℤ, pos, negsuc, nat_abs}
use lib.Pow.{pow_mono}
use borrow.Author.Tests.{eq-eqb, ne_eqb, eqb-true, ltb-true, lt-ltb, le-ltb, le-leb, lt-leb}
use Rattle.counting.specs.Search.{pick}
use Rattle.counting.proofs.Bools.{and_left, and_right, by_test, conflict}
use Rattle.points.specs.declared.Point.{Point}
use Rattle.gray.specs.Gray.{gray}
use Rattle.points.specs.Points.{at, even_point, odd_point, point_of, load_listed}
use Rattle.points.specs.Answers.{PointAnswer, point_answer}
use Rattle.rules.specs.Refusals.{refused_by}
use Rattle.rules.proofs.Findings.{not_fine}
use Rattle.std.specs.Prelude.{Ok}
use Rattle.gray.specs.Positions.{is_gray, bits_of}
use Rattle.points.specs.Back.{in_square, unsquare, in_cross, uncross, unrectangle, inside, back}
use Rattle.gray.proofs.GrayLaws.{gray_in, small_power, bits_of_gray, gray_bits_of, bits_of_lt}
use Rattle.points.proofs.CrossLaws.{in_cross_lem}
use Rattle.points.proofs.PointLaws.{odd_most, square_x, square_y, gray_value_odd, gray_value_in, gray_is_value, square_in, square_back, unsquare_lt, back_square, odd_in, odd_back, unrectangle_lt, back_odd}

-- ---- which rule a load takes

-- the loads that the rules cover: the document has another rule for 3 bits
pub record Covered (m : ℕ) : Type 0 where
  pub some : 0 < m
  pub not_three : m ≡ 3 → ⊥

pub covered : (m : ℕ) → load_listed m ≡ true → Covered m
unfolding load_listed
covered m t = record {
  some = by_cases (ℕ_discrete m 0) (λ e. absurd (conflict false (subst (λ (k : ℕ). load_listed k ≡ true) e t) refl)) (λ n. omega arith);
  not_three = λ e. conflict false (subst (λ (k : ℕ). load_listed k ≡ true) e t) refl;
}

pub at_most : (m : ℕ) → load_listed m ≡ true → m ≤ 14
unfolding load_listed
at_most m t =
    by_cases (dec_le m 14) (λ h. h)
    (λ n.
    let f : load_listed m ≡ false =
    rw (ne_eqb m 1 (λ e. omega arith), ne_eqb m 2 (λ e. omega arith), ne_eqb m 4 (λ e. omega arith), le-leb 6 m (omega arith), lt-leb m 14 (omega arith)) refl in
    absurd (conflict (load_listed m) t f))

module _ {A : Type 0} (m : ℕ) (a b c : A) where
  pub one_bit : m ≡ 1 → pick (eqb m 1) a (pick (eqb (m % 2) 0) b c) ≡ a
  one_bit h = rw (eq-eqb m 1 h) refl

  pub even_bits : (m ≡ 1 → ⊥) → m % 2 ≡ 0 → pick (eqb m 1) a (pick (eqb (m % 2) 0) b c) ≡ b
  even_bits n h = rw (ne_eqb m 1 n, eq-eqb (m % 2) 0 h) refl

  pub odd_bits : (m ≡ 1 → ⊥) → (m % 2 ≡ 0 → ⊥) → pick (eqb m 1) a (pick (eqb (m % 2) 0) b c) ≡ c
  odd_bits n h = rw (ne_eqb m 1 n, ne_eqb (m % 2) 0 h) refl

-- 0 has no sign
nought : (y : ℤ) → nat_abs y ≡ 0 → pos 0 ≡ y
nought (pos a) h = ap pos (sym h)
nought (negsuc a) h = absurd (omega arith)

pub by_rule : {C : Type 0} (m : ℕ) → (m ≡ 1 → C) → ((m ≡ 1 → ⊥) → m % 2 ≡ 0 → C) → ((m ≡ 1 → ⊥) → (m % 2 ≡ 0 → ⊥) → C) → C
by_rule m f g h = by_cases (ℕ_discrete m 1) f (λ n. by_cases (ℕ_discrete (m % 2) 0) (g n) (h n))

module _ (m : ℕ) where
  pub point_one : (v : ℕ) → m ≡ 1 → point_of m v ≡ at (gray 1 v) (pos 0)
  unfolding point_of
  point_one v h = one_bit m (at (gray 1 v) (pos 0)) (even_point (m / 2) v) (odd_point (m / 2) v) h

  pub point_even : (v : ℕ) → (m ≡ 1 → ⊥) → m % 2 ≡ 0 → point_of m v ≡ even_point (m / 2) v
  unfolding point_of
  point_even v n h = even_bits m (at (gray 1 v) (pos 0)) (even_point (m / 2) v) (odd_point (m / 2) v) n h

  pub point_odd : (v : ℕ) → (m ≡ 1 → ⊥) → (m % 2 ≡ 0 → ⊥) → point_of m v ≡ odd_point (m / 2) v
  unfolding point_of
  point_odd v n h = odd_bits m (at (gray 1 v) (pos 0)) (even_point (m / 2) v) (odd_point (m / 2) v) n h

  pub inside_one : (p : Point) → m ≡ 1 → inside m p ≡ (is_gray 1 p.x && eqb (nat_abs p.y) 0)
  unfolding inside
  inside_one p h = one_bit m (is_gray 1 p.x && eqb (nat_abs p.y) 0) (in_square (m / 2) p) (in_cross (2 ^ (m / 2 - 1)) p) h

  pub inside_even : (p : Point) → (m ≡ 1 → ⊥) → m % 2 ≡ 0 → inside m p ≡ in_square (m / 2) p
  unfolding inside
  inside_even p n h = even_bits m (is_gray 1 p.x && eqb (nat_abs p.y) 0) (in_square (m / 2) p) (in_cross (2 ^ (m / 2 - 1)) p) n h

  pub inside_odd : (p : Point) → (m ≡ 1 → ⊥) → (m % 2 ≡ 0 → ⊥) → inside m p ≡ in_cross (2 ^ (m / 2 - 1)) p
  unfolding inside
  inside_odd p n h = odd_bits m (is_gray 1 p.x && eqb (nat_abs p.y) 0) (in_square (m / 2) p) (in_cross (2 ^ (m / 2 - 1)) p) n h

  pub back_one : (p : Point) → m ≡ 1 → back m p ≡ bits_of 1 p.x
  unfolding back
  back_one p h = one_bit m (bits_of 1 p.x) (unsquare (m / 2) p) (unrectangle (m / 2) (uncross (2 ^ (m / 2 - 1)) p)) h

  pub back_even : (p : Point) → (m ≡ 1 → ⊥) → m % 2 ≡ 0 → back m p ≡ unsquare (m / 2) p
  unfolding back
  back_even p n h = even_bits m (bits_of 1 p.x) (unsquare (m / 2) p) (unrectangle (m / 2) (uncross (2 ^ (m / 2 - 1)) p)) n h

  pub back_odd_bits : (p : Point) → (m ≡ 1 → ⊥) → (m % 2 ≡ 0 → ⊥) → back m p ≡ unrectangle (m / 2) (uncross (2 ^ (m / 2 - 1)) p)
  unfolding back
  back_odd_bits p n h = odd_bits m (bits_of 1 p.x) (unsquare (m / 2) p) (unrectangle (m / 2) (uncross (2 ^ (m / 2 - 1)) p)) n h

-- ---- a value makes a point inside, and comes back from it

module _ (m : ℕ) (k : Covered m) where
  whole_even : m % 2 ≡ 0 → m ≡ m / 2 + m / 2
  whole_even h = omega arith

  pub some_even : m % 2 ≡ 0 → 0 < m / 2
  some_even h = omega arith

  pub whole_odd : (m % 2 ≡ 0 → ⊥) → m ≡ suc (m / 2) + m / 2
  whole_odd h = by_cases (ℕ_discrete (m % 2) 0) (λ e. absurd (h e)) (λ o. omega arith)

  pub some_odd : (m ≡ 1 → ⊥) → (m % 2 ≡ 0 → ⊥) → 1 < m / 2
  some_odd g h =
      let e = whole_odd h in
      by_cases (ℕ_discrete (m / 2) 0) (λ z. absurd (g (omega arith)))
      (λ z. by_cases (ℕ_discrete (m / 2) 1) (λ u. absurd (k.not_three (omega arith))) (λ u. omega arith))

  pub point_inside : (v : ℕ) → inside m (point_of m v) ≡ true
  point_inside v = by_rule m
      (λ e. inside_one m (point_of m v) e ∙ rw (point_one m v e, gray_is_value 1 v (omega arith)) refl)
      (λ o e. inside_even m (point_of m v) o e ∙ rw (point_even m v o e) (square_in (m / 2) (some_even e) v))
      (λ o e. inside_odd m (point_of m v) o e ∙ rw (point_odd m v o e) (odd_in (m / 2) (some_odd o e) v))

  pub point_back : (v : ℕ) → v < 2 ^ m → back m (point_of m v) ≡ v
  point_back v h = by_rule m
      (λ e. back_one m (point_of m v) e ∙ rw (point_one m v e) (bits_of_gray 1 v (subst (λ (j : ℕ). v < 2 ^ j) e h)))
      (λ o e. back_even m (point_of m v) o e ∙ rw (point_even m v o e) (square_back (m / 2) (some_even e) v (subst (λ (j : ℕ). v < 2 ^ j) (whole_even e) h)))
      (λ o e. back_odd_bits m (point_of m v) o e ∙ rw (point_odd m v o e) (odd_back (m / 2) (some_odd o e) v (subst (λ (j : ℕ). v < 2 ^ j) (whole_odd e) h)))

  -- the points of different values are different
  pub distinct : (v w : ℕ) → v < 2 ^ m → w < 2 ^ m → point_of m v ≡ point_of m w → v ≡ w
  distinct v w h g e = sym (point_back v h) ∙ ap (back m) e ∙ point_back w g

  -- a point inside is made by its value
  pub back_lt : (p : Point) → inside m p ≡ true → back m p < 2 ^ m
  back_lt p t = by_rule m
      (λ e.
      let i = and_left (is_gray 1 p.x) (eqb (nat_abs p.y) 0) (sym (inside_one m p e) ∙ t) in
      rw (back_one m p e) (subst (λ (j : ℕ). bits_of 1 p.x < 2 ^ j) (sym e) (bits_of_lt 1 p.x (gray_value_in 1 p.x i))))
      (λ o e. rw (back_even m p o e)
      (subst (λ (j : ℕ). unsquare (m / 2) p < 2 ^ j) (sym (whole_even e)) (unsquare_lt (m / 2) (some_even e) p (sym (inside_even m p o e) ∙ t))))
      (λ o e. rw (back_odd_bits m p o e)
      (subst (λ (j : ℕ). unrectangle (m / 2) (uncross (2 ^ (m / 2 - 1)) p) < 2 ^ j) (sym (whole_odd e)) (unrectangle_lt (m / 2) (some_odd o e) p (sym (inside_odd m p o e) ∙ t))))

  pub back_point : (p : Point) → inside m p ≡ true → point_of m (back m p) ≡ p
  back_point p t = by_rule m
      (λ e.
      let i = sym (inside_one m p e) ∙ t in
      let l = and_left (is_gray 1 p.x) (eqb (nat_abs p.y) 0) i in
      let z = eqb-true (nat_abs p.y) 0 (and_right (is_gray 1 p.x) (eqb (nat_abs p.y) 0) i) in
      point_one m (back m p) e ∙ rw (back_one m p e, gray_bits_of 1 p.x (omega arith) (gray_value_odd 1 p.x l) (gray_value_in 1 p.x l)) (ap (at p.x) (nought p.y z)))
      (λ o e. point_even m (back m p) o e ∙ rw (back_even m p o e) (back_square (m / 2) (some_even e) p (sym (inside_even m p o e) ∙ t)))
      (λ o e. point_odd m (back m p) o e ∙ rw (back_odd_bits m p o e) (back_odd (m / 2) (some_odd o e) p (sym (inside_odd m p o e) ∙ t)))

-- ---- the answer, ground by ground

pub point_22 : (m v : ℕ) → load_listed m ≡ false → point_answer m v ≡ refused_by 22 m
unfolding point_answer
point_22 m v t = rw t refl

pub point_23 : (m v : ℕ) → load_listed m ≡ true → 2 ^ m ≤ v → point_answer m v ≡ refused_by 23 v
unfolding point_answer
point_23 m v t h = rw (t, le-ltb v (2 ^ m) h) refl

pub point_at : (m v : ℕ) → load_listed m ≡ true → v < 2 ^ m → point_answer m v ≡ Ok (point_of m v)
unfolding point_answer
point_at m v t h = rw (t, lt-ltb v (2 ^ m) h) refl

-- ---- what an answered point says

pub record Answered (m v : ℕ) (p : Point) : Type 0 where
  pub load : load_listed m ≡ true
  pub value : v < 2 ^ m
  pub same : point_of m v ≡ p

pub answered : (m v : ℕ) (p : Point) → point_answer m v ≡ Ok p → Answered m v p
unfolding point_answer
answered m v p e =
    by_test (load_listed m)
    (λ t. by_test (ltb v (2 ^ m))
    (λ u.
    let r : ◌≡◌ {A = PointAnswer} (Ok (point_of m v)) (Ok p) = rw (t, u) at e in
    record { load = t; value = ltb-true v (2 ^ m) u; same = cc })
    (λ u. absurd (not_fine (rw (t, u) at e))))
    (λ t. absurd (not_fine (rw t at e)))

-- ---- no coordinate of a listed load is above 127

pub small_x : (m v : ℕ) → load_listed m ≡ true → nat_abs (point_of m v).x < 128
small_x m v t =
    let k = covered m t in
    let i = point_inside m k v in
    let l = at_most m t in
    by_rule m
    (λ e. rw (point_one m v e) (omega (arith, gray_in 1 v)))
    (λ o e.
    let h : m / 2 ≤ 7 = omega arith in
    omega (arith, square_x (m / 2) (some_even m k e) (point_of m v) (sym (inside_even m (point_of m v) o e) ∙ i), small_power (m / 2) h))
    (λ o e.
    let h : m / 2 - 1 ≤ 5 = omega (arith, odd_most m l e) in
    omega (arith, (in_cross_lem (2 ^ (m / 2 - 1)) (point_of m v) (sym (inside_odd m (point_of m v) o e) ∙ i)).in_x, pow_mono h))

pub small_y : (m v : ℕ) → load_listed m ≡ true → nat_abs (point_of m v).y < 128
small_y m v t =
    let k = covered m t in
    let i = point_inside m k v in
    let l = at_most m t in
    by_rule m
    (λ e. rw (point_one m v e) (omega arith))
    (λ o e.
    let h : m / 2 ≤ 7 = omega arith in
    omega (arith, square_y (m / 2) (some_even m k e) (point_of m v) (sym (inside_even m (point_of m v) o e) ∙ i), small_power (m / 2) h))
    (λ o e.
    let h : m / 2 - 1 ≤ 5 = omega (arith, odd_most m l e) in
    omega (arith, (in_cross_lem (2 ^ (m / 2 - 1)) (point_of m v) (sym (inside_odd m (point_of m v) o e) ∙ i)).in_y, pow_mono h))
