-- Laws of sums, of counts as sums, and of what a search finds, below any bound. Assumes nothing.
use Prim.Native.Nat.{ℕ, zero, suc, ◌+◌, ◌*◌, ◌≤◌, ◌<◌}
use mathlib.Core.Path.{◌≡◌, refl, sym, ap, ap₂, ◌∙◌}
use mathlib.Core.Logic.{◌≢◌, by_cases}
use mathlib.Core.Bool.{Bool, true, false, not}
use Rattle.std.specs.Prelude.{unwrap_or}
use native.Mathlib.Nat.{not-suc-le-zero, zero-mul, add-zero, add-suc}
use native.Mathlib.Decide.{dec_lt, ℕ_discrete}
use native.Mathlib.Omega.{arith}
use lib.Dec.{eqb}
use borrow.Author.Tests.{eq-eqb, ne_eqb}
use Rattle.counting.specs.Search.{bit, pick, sum, count, when, or_else, highest, find}
use Rattle.counting.proofs.Laws.{bit_le, bit_true}

pub bit_not : (b : Bool) → bit b + bit (not b) ≡ 1
bit_not true = refl
bit_not false = refl

pub sum_cong : (f g : ℕ → ℕ) (n : ℕ) → ((i : ℕ) → i < n → f i ≡ g i) → sum f n ≡ sum g n
unfolding sum
sum_cong f g zero h = refl
sum_cong f g (suc n) h = ap₂ ◌+◌ (sum_cong f g n (λ i l. h i (omega arith))) (h n (omega arith))

pub sum_le : (f g : ℕ → ℕ) (n : ℕ) → ((i : ℕ) → i < n → f i ≤ g i) → sum f n ≤ sum g n
unfolding sum
sum_le f g zero h = omega arith
sum_le f g (suc n) h = omega (arith, sum_le f g n (λ i l. h i (omega arith)), h n (omega arith))

pub sum_lt : (f g : ℕ → ℕ) (n : ℕ) → ((i : ℕ) → i < n → f i ≤ g i) → (p : ℕ) → p < n → f p < g p → sum f n < sum g n
unfolding sum
sum_lt f g zero h p l s = absurd (not-suc-le-zero l)
sum_lt f g (suc n) h p l s = go (λ c. sum_lt f g n (λ i l. h i (omega arith)) p c s) (dec_lt p n)
  where
    go : (p < n → sum f n < sum g n) → Dec (p < n) → sum f n + f n < sum g n + g n
    go ih (yes c) = omega (arith, ih c, h n (omega arith))
    go ih (no c) =
        let e : n ≡ p = omega arith in
        let s' : f n < g n = rw e s in
        omega (arith, sum_le f g n (λ i l. h i (omega arith)))

pub sum_add : (f g : ℕ → ℕ) (n : ℕ) → sum (λ i. f i + g i) n ≡ sum f n + sum g n
unfolding sum
sum_add f g zero = refl
sum_add f g (suc n) = omega (arith, sum_add f g n)

pub sum_const : (c n : ℕ) → sum (λ i. c) n ≡ n * c
unfolding sum
sum_const c zero = sym (zero-mul c)
sum_const c (suc n) = omega (arith, sum_const c n)

pub sum_zero : (n : ℕ) → sum (λ i. 0) n ≡ 0
unfolding sum
sum_zero zero = refl
sum_zero (suc n) = omega (arith, sum_zero n)

-- one sum after the other, in either order
pub sum_swap : (f : ℕ → ℕ → ℕ) (a b : ℕ) → sum (λ i. sum (λ j. f i j) b) a ≡ sum (λ j. sum (λ i. f i j) a) b
unfolding sum
sum_swap f zero b = sym (sum_zero b)
sum_swap f (suc a) b = ap (λ (x : ℕ). x + sum (λ j. f a j) b) (sum_swap f a b) ∙ sym (sum_add (λ j. sum (λ i. f i j) a) (λ j. f a j) b)

-- of the numbers below n one is a
pub sum_none : (f : ℕ → ℕ) (n : ℕ) → ((i : ℕ) → i < n → f i ≡ 0) → sum f n ≡ 0
sum_none f n h = sum_cong f (λ i. 0) n h ∙ sum_zero n

-- a sum with one term
pub sum_single : (f : ℕ → ℕ) (n a : ℕ) → a < n → ((i : ℕ) → i < n → i ≢ a → f i ≡ 0) → sum f n ≡ f a
unfolding sum
sum_single f zero a l h = absurd (not-suc-le-zero l)
sum_single f (suc n) a l h = go (λ c. sum_single f n a c (λ i k ne. h i (omega arith) ne)) (dec_lt a n)
  where
    go : (a < n → sum f n ≡ f a) → Dec (a < n) → sum f n + f n ≡ f a
    go ih (yes c) = omega (arith, ih c, h n (omega arith) (omega arith))
    go ih (no c) =
        let e : n ≡ a = omega arith in
        let z : sum f n ≡ 0 = sum_none f n (λ i k. h i (omega arith) (omega arith)) in
        omega (arith, z, ap f e)

pub count_eq : (n a : ℕ) → a < n → count (λ i. eqb i a) n ≡ 1
unfolding count
count_eq n a l = sum_single (λ i. bit (eqb i a)) n a l (λ i k ne. ap bit (ne_eqb i a ne)) ∙ ap bit (eq-eqb a a refl)

-- n numbers of at most 1 whose sum is n are each 1
pub all_one : (f : ℕ → ℕ) (n : ℕ) → ((i : ℕ) → i < n → f i ≤ 1) → sum f n ≡ n → (p : ℕ) → p < n → 1 ≤ f p
all_one f n h e p l = go (dec_lt 0 (f p))
  where
    go : Dec (0 < f p) → 1 ≤ f p
    go (yes c) = c
    go (no c) = absurd (omega (arith, sum_lt f (λ i. 1) n h p l (omega arith), sum_const 1 n))

-- where n of n pass, each does
pub all_pass : (t : ℕ → Bool) (n : ℕ) → count t n ≡ n → (k : ℕ) → k < n → t k ≡ true
unfolding count
all_pass t n e k h = bit_true (t k) (all_one (λ i. bit (t i)) n (λ i l. bit_le (t i)) e k h)

-- those that pass and those that do not
pub count_not : (t : ℕ → Bool) (n : ℕ) → count t n + count (λ i. not (t i)) n ≡ n
unfolding count
count_not t n =
    sym (sum_add (λ i. bit (t i)) (λ i. bit (not (t i))) n)
    ∙ sum_cong (λ i. bit (t i) + bit (not (t i))) (λ i. 1) n (λ i l. bit_not (t i))
    ∙ omega (arith, sum_const 1 n)

-- at most one passes, so at most one is counted
pub count_le_one : (t : ℕ → Bool) (n : ℕ) → ((i j : ℕ) → i < n → j < n → t i ≡ true → t j ≡ true → i ≡ j) → count t n ≤ 1
unfolding count sum
count_le_one t zero h = omega arith
count_le_one t (suc n) h = go (count_le_one t n (λ i j k l. h i j (omega arith) (omega arith))) (t n) refl
  where
    go : sum (λ i. bit (t i)) n ≤ 1 → (b : Bool) → t n ≡ b → sum (λ i. bit (t i)) n + bit (t n) ≤ 1
    go ih true e = rw e (omega (arith, sum_none (λ i. bit (t i)) n (λ i l. none i l (t i) refl)))
      where
        none : (i : ℕ) → i < n → (b : Bool) → t i ≡ b → bit (t i) ≡ 0
        none i l true g = absurd (omega (arith, h i n (omega arith) (omega arith) g e))
        none i l false g = ap bit g
    go ih false e = rw e (omega arith)

-- what find finds
pub record Found (t : ℕ → Bool) (n i : ℕ) : Type 0 where
  pub below : i < n
  pub passes : t i ≡ true

find_suc : (t : ℕ → Bool) (n : ℕ) → find t (suc n) ≡ pick (t n) n (find t n)
unfolding find highest
find_suc t n = go (t n)
  where
    go : (b : Bool) → unwrap_or (let r = highest t n in or_else (when b n) r) 0 ≡ pick b n (unwrap_or (highest t n) 0)
    go true = refl
    go false = refl

pub find_found : (t : ℕ → Bool) (n p : ℕ) → p < n → t p ≡ true → Found t n (find t n)
find_found t zero p l e = absurd (not-suc-le-zero l)
find_found t (suc n) p l e = rw (find_suc t n) (go (λ c. find_found t n p c e) (t n) refl)
  where
    go : (p < n → Found t n (find t n)) → (b : Bool) → t n ≡ b → Found t (suc n) (pick (t n) n (find t n))
    go ih true g = rw g (record { below = omega arith; passes = g })
    go ih false g =
        let ne : p ≢ n = λ q. let z : true ≡ false = sym e ∙ ap t q ∙ g in (let y : ◌≡◌ {A = ℕ} 1 0 = ap bit z in omega arith) in
        let r : Found t n (find t n) = ih (omega arith) in
        rw g (record { below = omega (arith, r.below); passes = r.passes })

-- where some are counted, one is found
pub find_counted : (t : ℕ → Bool) (n : ℕ) → 1 ≤ count t n → Found t n (find t n)
unfolding count sum
find_counted t zero h = absurd (omega arith)
find_counted t (suc n) h = rw (find_suc t n) (go (λ c. find_counted t n c) (t n) refl)
  where
    go : (1 ≤ sum (λ i. bit (t i)) n → Found t n (find t n)) → (b : Bool) → t n ≡ b → Found t (suc n) (pick (t n) n (find t n))
    go ih true g = rw g (record { below = omega arith; passes = g })
    go ih false g =
        let r : Found t n (find t n) = ih (omega (arith, h, ap bit g)) in
        rw g (record { below = omega (arith, r.below); passes = r.passes })

-- ---- parts of a sum

-- a sum is that of its parts
pub sum_split : (f : ℕ → ℕ) (a b : ℕ) → sum f (a + b) ≡ sum f a + sum (λ i. f (a + i)) b
unfolding sum
sum_split f a zero = rw (add-zero a) (omega arith)
sum_split f a (suc b) = rw (add-suc a b) (omega (arith, sum_split f a b))

pub sum_blocks : (f : ℕ → ℕ) (n c q : ℕ) → ((b : ℕ) → b < q → sum (λ i. f (b * n + i)) n ≡ c) → sum f (q * n) ≡ q * c
unfolding sum
sum_blocks f n c zero h = rw (zero-mul n, zero-mul c) refl
sum_blocks f n c (suc q) h =
    let e : suc q * n ≡ q * n + n = omega arith in
    rw e (omega (arith, sum_split f (q * n) n, sum_blocks f n c q (λ b l. h b (omega arith)), h q (omega arith)))

-- numbers that add up to less than there are of them are not all above 0
pub some_zero : (f : ℕ → ℕ) (n : ℕ) → sum f n < n → (i : ℕ) × (i < n) × (f i ≡ 0)
unfolding sum
some_zero f zero h = absurd (not-suc-le-zero h)
some_zero f (suc n) h =
    by_cases (ℕ_discrete (f n) 0)
    (λ e. (n, omega arith, e))
    (λ ne.
    let r = some_zero f n (omega arith) in
    (r.0, omega (arith, r.1), r.2))

pub sum_none→ : (f : ℕ → ℕ) (n : ℕ) → sum f n ≡ 0 → (i : ℕ) → i < n → f i ≡ 0
unfolding sum
sum_none→ f zero e i h = absurd (not-suc-le-zero h)
sum_none→ f (suc n) e i h =
    by_cases (dec_lt i n)
    (λ c. sum_none→ f n (omega arith) i c)
    (λ c. let q : i ≡ n = omega arith in rw q (omega arith))
