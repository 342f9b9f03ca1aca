-- A sum over all numbers below n is the same in any order; so a count over all phases does not depend on where it starts. Assumes nothing.
use Prim.Native.Nat.{ℕ, zero, suc, ◌+◌, ◌*◌, ◌%◌, ◌/◌, ◌≤◌, ◌<◌}
use mathlib.Core.Path.{◌≡◌, refl, sym, ◌∙◌}
use mathlib.Core.Logic.{by_cases}
use native.Mathlib.Nat.{mod-lt, zero-mul, one-mul, div-add-mod, mul-le-mul_left}
use native.Mathlib.Decide.{dec_lt, dec_le}
use native.Mathlib.Omega.{arith}
use lib.Dec.{ltb, eqb}
use borrow.Author.Tests.{eqb-true, eq-eqb, ne_eqb, lt-ltb, le-ltb}
use Rattle.counting.specs.Search.{bit, sum, count}
use Rattle.counting.proofs.Sums.{sum_cong, sum_swap, sum_single, count_le_one}
use Rattle.counting.proofs.Ranks.{InjBelow, pigeonhole}

-- two numbers less than m apart with the same remainder are the same
pub same_mod : (m t k : ℕ) → t ≤ k → k < t + m → k % m ≡ t % m → k ≡ t
same_mod m t k h g e = go (dec_lt (t / m) (k / m))
  where
    go : Dec (t / m < k / m) → k ≡ t
    go (yes c) = absurd (omega (arith, div-add-mod t m, div-add-mod k m, mul-le-mul_left m c))
    go (no c) =
        let c' : k / m ≤ t / m = omega arith in
        omega (arith, div-add-mod t m, div-add-mod k m, mul-le-mul_left m c')

pub sum_mul : (h : ℕ → ℕ) (c n : ℕ) → sum (λ i. h i * c) n ≡ sum h n * c
unfolding sum
sum_mul h c zero = sym (zero-mul c)
sum_mul h c (suc n) = omega (arith, sum_mul h c n)

-- a term picked out by a test of its index
pub sum_pick : (f : ℕ → ℕ) (n a : ℕ) → a < n → sum (λ r. bit (eqb a r) * f r) n ≡ f a
sum_pick f n a h =
    sum_single (λ r. bit (eqb a r) * f r) n a h (λ i l ne. rw (ne_eqb a i (λ e. ne (sym e))) (zero-mul (f i)))
    ∙ rw (eq-eqb a a refl) (one-mul (f a))

pub sum_perm : (n : ℕ) (g : ℕ → ℕ) → InjBelow n g → ((i : ℕ) → i < n → g i < n) → (f : ℕ → ℕ) → sum (λ i. f (g i)) n ≡ sum f n
sum_perm n g inj low f =
    sum_cong (λ i. f (g i)) (λ i. sum (λ r. bit (eqb (g i) r) * f r) n) n (λ i l. sym (sum_pick f n (g i) (low i l)))
    ∙ sum_swap (λ i r. bit (eqb (g i) r) * f r) n n
    ∙ sum_cong (λ r. sum (λ i. bit (eqb (g i) r) * f r) n) f n
    (λ r h. sum_mul (λ i. bit (eqb (g i) r)) (f r) n ∙ rw (one r h) (one-mul (f r)))
  where
    one : (r : ℕ) → r < n → sum (λ i. bit (eqb (g i) r)) n ≡ 1
    one r h =
        unfold count in
        omega (arith, pigeonhole n g inj low r h, count_le_one (λ i. eqb (g i) r) n (λ p q hp hq ep eq. inj p q hp hq (eqb-true (g p) r ep ∙ sym (eqb-true (g q) r eq))))

-- a start further on
pub turn_inj : (P d : ℕ) → InjBelow P (λ j. (j + d) % P)
turn_inj P d p q hp hq e =
    by_cases (dec_le p q)
    (λ c. let z : q + d ≡ p + d = same_mod P (p + d) (q + d) (omega arith) (omega arith) (sym e) in omega arith)
    (λ c. let z : p + d ≡ q + d = same_mod P (q + d) (p + d) (omega arith) (omega arith) e in omega arith)

pub sum_turn : (P d : ℕ) (f : ℕ → ℕ) → sum (λ j. f ((j + d) % P)) P ≡ sum f P
sum_turn P d f = sum_perm P (λ j. (j + d) % P) (turn_inj P d) (λ i l. mod-lt (i + d) (omega arith)) f

-- the terms up to a cut
pub sum_cut : (h : ℕ → ℕ) (n a : ℕ) → a ≤ n → sum (λ i. bit (ltb i a) * h i) n ≡ sum h a
unfolding sum
sum_cut h zero a l = let e : a ≡ 0 = omega arith in rw e refl
sum_cut h (suc n) a l =
    by_cases (dec_le a n)
    (λ c. rw (le-ltb n a c) (omega (arith, sum_cut h n a c)))
    (λ c.
    let e : a ≡ suc n = omega arith in
    let f : sum (λ i. bit (ltb i a) * h i) n ≡ sum h n =
    sum_cong (λ i. bit (ltb i a) * h i) h n (λ i k. rw (lt-ltb i a (omega arith)) (one-mul (h i)))
    in
    rw (lt-ltb n a (omega arith)) (rw e (omega (arith, f))))
