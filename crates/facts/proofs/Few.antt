-- How many of n successive numbers can lie in a range, be in a list, or pass a test that passes few in each window. Assumes nothing.
use Prim.Native.Nat.{ℕ, zero, suc, ◌+◌, ◌-◌, ◌*◌, ◌≤◌}
use mathlib.Core.Path.{◌≡◌, refl, sym, ap, ◌∙◌}
use mathlib.Core.Logic.{by_cases}
use mathlib.Core.Bool.{Bool, true, false, ◌&&◌, ◌||◌}
use mathlib.Core.List.{List, [], ◌∷◌}
use native.Mathlib.Nat.{zero-add}
use native.Mathlib.Decide.{dec_lt, dec_le}
use native.Mathlib.Omega.{arith}
use lib.Dec.{leb, ltb, eqb}
use lib.ListN.{length}
use borrow.Author.Tests.{eqb-true, eq-eqb, leb-true, lt-ltb, le-ltb}
use Rattle.counting.specs.Search.{bit, sum, count}
use Rattle.counting.proofs.Bools.{by_test}
use Rattle.counting.proofs.Laws.{bit_le}
use Rattle.counting.proofs.Sums.{sum_cong, sum_le, sum_add, sum_zero, sum_none, sum_split, count_le_one}
use Rattle.rules.specs.Roles.{one_of}

bit_or : (a b : Bool) → bit (a || b) ≤ bit a + bit b
bit_or true b = omega arith
bit_or false b = omega arith

-- one number is met at most once
count_one : (y a n : ℕ) → count (λ i. eqb (a + i) y) n ≤ 1
count_one y a n = count_le_one (λ i. eqb (a + i) y) n (λ i k hi hk ei ek. let z : a + i ≡ a + k = eqb-true (a + i) y ei ∙ sym (eqb-true (a + k) y ek) in omega arith)

-- no more than the list is long
pub count_members : (l : List ℕ) (a n : ℕ) → count (λ i. one_of (a + i) l) n ≤ length l
unfolding one_of count
count_members [] a n = omega (arith, sum_zero n)
count_members (y ∷ l) a n =
    omega (
      arith,
      sum_le (λ i. bit (eqb (a + i) y || one_of (a + i) l)) (λ i. bit (eqb (a + i) y) + bit (one_of (a + i) l)) n (λ i h. bit_or (eqb (a + i) y) (one_of (a + i) l)),
      sum_add (λ i. bit (eqb (a + i) y)) (λ i. bit (one_of (a + i) l)) n,
      count_one y a n,
      count_members l a n,
    )

-- one number more at the end of a range
range_more : (lo w k : ℕ) → bit (leb lo k && ltb k (lo + suc w)) ≤ bit (leb lo k && ltb k (lo + w)) + bit (eqb k (lo + w))
range_more lo w k =
    by_test (leb lo k)
    (λ q. rw q
    (by_cases (dec_lt k (lo + w))
    (λ c. rw (lt-ltb k (lo + w) c) (omega (arith, bit_le (ltb k (lo + suc w)))))
    (λ c. by_cases (dec_le (lo + suc w) k)
    (λ h. rw (le-ltb k (lo + suc w) h) (omega arith))
    (λ h. rw (eq-eqb k (lo + w) (omega arith)) (omega (arith, bit_le (ltb k (lo + suc w))))))))
    (λ q. rw q (omega arith))

-- w numbers lie from lo to lo + w - 1
pub count_range : (lo w a n : ℕ) → count (λ i. leb lo (a + i) && ltb (a + i) (lo + w)) n ≤ w
unfolding count
count_range lo zero a n = omega (arith, sum_none (λ i. bit (leb lo (a + i) && ltb (a + i) (lo + 0))) n (λ i l. none (a + i)))
  where
    none : (k : ℕ) → bit (leb lo k && ltb k (lo + 0)) ≡ 0
    none k =
        by_test (leb lo k)
        (λ q. rw (q, le-ltb k (lo + 0) (omega (arith, leb-true lo k q))) refl)
        (λ q. rw q refl)
count_range lo (suc w) a n =
    omega (
      arith,
      sum_le (λ i. bit (leb lo (a + i) && ltb (a + i) (lo + suc w))) (λ i. bit (leb lo (a + i) && ltb (a + i) (lo + w)) + bit (eqb (a + i) (lo + w))) n (λ i h. range_more lo w (a + i)),
      sum_add (λ i. bit (leb lo (a + i) && ltb (a + i) (lo + w))) (λ i. bit (eqb (a + i) (lo + w))) n,
      count_one (lo + w) a n,
      count_range lo w a n,
    )

-- The first k of n numbers, covered by w windows: one that ends with them, and windows below it that cover the others.
module _ (f : ℕ → ℕ) (size most n : ℕ) (fits : size ≤ n) (few : (x : ℕ) → x + size ≤ n → sum (λ i. f (x + i)) size ≤ most) where
  -- fewer numbers than a window has
  part : (k : ℕ) → k ≤ size → sum f k ≤ most
  part k l =
      let e : k + (size - k) ≡ size = omega arith in
      omega (arith, ap (sum f) e, sum_split f k (size - k), few 0 (omega arith), sum_cong (λ i. f (0 + i)) f size (λ i h. ap f (zero-add i)))

  pub cover : (w k : ℕ) → k ≤ n → k ≤ w * size → sum f k ≤ w * most
  unfolding sum
  cover zero k a b = let e : k ≡ 0 = omega arith in rw e (omega arith)
  cover (suc w) k a b =
      by_cases (dec_le size k)
      (λ c.
      let e : k - size + size ≡ k = omega arith in
      omega (arith, ap (sum f) e, sum_split f (k - size) size, few (k - size) (omega arith), cover w (k - size) (omega arith) (omega arith)))
      (λ c. omega (arith, part k (omega arith)))
