-- Laws of counting and searching, for any test and any n. Assumes nothing.
use mathlib.Core.Path.{◌≡◌, refl, sym, ap, ap₂, ◌∙◌, subst}
use mathlib.Core.Logic.{◌⊎◌, inl, inr}
use mathlib.Core.Bool.{Bool, true, false}
use Rattle.std.specs.Prelude.{Option, Some, None}
use mathlib.Core.List.{List, [], ◌++◌}
use Prim.Native.Nat.{ℕ, zero, suc, ◌+◌, ◌≤◌, ◌<◌, zero-le}
use native.Mathlib.Nat.{add-zero, zero-add, add-suc, suc-add, not-suc-le-zero, le_refl, le-suc, le_trans, lt_irrefl, eq-or-lt_of_le, le_of_suc-le-suc, le_of_eq}
use native.Mathlib.Numerals.{add-one}
use native.Mathlib.Omega.{arith}
use native.Mathlib.Decide.{le_ind}
use lib.Seq.{get_or_at}
use lib.ListN.{length, get_or, length-append, get_or-append}
use Rattle.counting.specs.Search.{bit, sum, count, when, or_else, first, lowest, keep, those}

-- the tests agree below n
pub count_ext : (p q : ℕ → Bool) (n : ℕ) → ((k : ℕ) → k < n → p k ≡ q k) → count p n ≡ count q n
unfolding count sum
count_ext p q zero h = refl
count_ext p q (suc n) h = ap₂ (λ (x : ℕ) (b : Bool). x + bit b) (count_ext p q n (λ k l. h k (le_trans l (le-suc n)))) (h n (le_refl (suc n)))

pub count_false : (n : ℕ) → count (λ k. false) n ≡ 0
unfolding count sum
count_false zero = refl
count_false (suc n) = ap (λ (x : ℕ). x + 0) (count_false n)

-- a window: what passes below a + n, from what passes below a
pub count_add : (p : ℕ → Bool) (a n : ℕ) → count p (a + n) ≡ count p a + count (λ i. p (a + i)) n
unfolding count sum
count_add p a zero = ap (count p) (add-zero a) ∙ sym (add-zero (count p a))
count_add p a (suc n) = rw add-suc (rw (count_add p a n) (omega arith))

-- one more counted
pub count_step : (p : ℕ → Bool) (k : ℕ) → count p (k + 1) ≡ count p k + bit (p k)
unfolding count sum
count_step p k = rw add-one refl

pub bit_le : (b : Bool) → bit b ≤ 1
bit_le true = le_refl 1
bit_le false = zero-le

pub bit_true : (b : Bool) → 1 ≤ bit b → b ≡ true
bit_true true h = refl
bit_true false h = absurd (omega arith)

pub bit_false : (b : Bool) → bit b ≡ 0 → b ≡ false
bit_false true e = absurd (omega arith)
bit_false false e = refl

pub count_le : (p : ℕ → Bool) (n : ℕ) → count p n ≤ n
unfolding count sum
count_le p zero = zero-le
count_le p (suc n) = omega (arith, count_le p n, bit_le (p n))

-- a number below suc n is n or below n
pub below_suc : {k n : ℕ} → k < suc n → (k ≡ n) ⊎ (k < n)
below_suc h = eq-or-lt_of_le (le_of_suc-le-suc h)

-- the first passes at x alone, of what the second passes not
pub count_insert : (p q : ℕ → Bool) (x n : ℕ) → x < n → p x ≡ true → q x ≡ false → ((k : ℕ) → k < n → (k ≡ x → ⊥) → p k ≡ q k)
    → count p n ≡ suc (count q n)
unfolding count sum
count_insert p q x zero l e f h = absurd (not-suc-le-zero l)
count_insert p q x (suc n) l e f h = go (below_suc l) (λ m. count_insert p q x n m e f (λ k w. h k (le_trans w (le-suc n))))
  where
    go : (x ≡ n) ⊎ (x < n) → (x < n → count p n ≡ suc (count q n)) → count p n + bit (p n) ≡ suc (count q n + bit (q n))
    go (inl r) ih =
        let same : count p n ≡ count q n = count_ext p q n (λ k w. h k (le_trans w (le-suc n)) (λ (u : k ≡ x). lt_irrefl n (subst (λ (y : ℕ). y < n) (u ∙ r) w))) in
        rw (same, sym (ap p r) ∙ e, sym (ap q r) ∙ f) (omega arith)
    go (inr m) ih = rw (ih m, h n (le_refl (suc n)) (λ (u : n ≡ x). lt_irrefl n (subst (λ (y : ℕ). y < n) (sym u) m))) (omega arith)

bit_mono : (a b : Bool) → (a ≡ true → b ≡ true) → bit a ≤ bit b
bit_mono true b h = le_of_eq (sym (ap bit (h refl)))
bit_mono false b h = zero-le

-- the second passes wherever the first does
pub count_mono : (p q : ℕ → Bool) (n : ℕ) → ((k : ℕ) → k < n → p k ≡ true → q k ≡ true) → count p n ≤ count q n
unfolding count sum
count_mono p q zero h = zero-le
count_mono p q (suc n) h = omega (arith, count_mono p q n (λ k l. h k (le_trans l (le-suc n))), bit_mono (p n) (q n) (h n (le_refl (suc n))))

-- and at x, where the first does not
pub count_mono_lt : (p q : ℕ → Bool) (x n : ℕ) → x < n → p x ≡ false → q x ≡ true → ((k : ℕ) → k < n → p k ≡ true → q k ≡ true) → count p n < count q n
unfolding count sum
count_mono_lt p q x zero l e f h = absurd (not-suc-le-zero l)
count_mono_lt p q x (suc n) l e f h = go (below_suc l) (λ m. count_mono_lt p q x n m e f (λ k w. h k (le_trans w (le-suc n))))
  where
    go : (x ≡ n) ⊎ (x < n) → (x < n → count p n < count q n) → count p n + bit (p n) < count q n + bit (q n)
    go (inl r) ih = omega (arith, count_mono p q n (λ k w. h k (le_trans w (le-suc n))), ap bit (sym (ap p r) ∙ e), ap bit (sym (ap q r) ∙ f))
    go (inr m) ih = omega (arith, ih m, bit_mono (p n) (q n) (h n (le_refl (suc n))))

-- nothing found: no k < n passes
IsFound : Option ℕ → Type 0
IsFound None = ⊥
IsFound (Some x) = Unit {0}

Some≢None : {k : ℕ} → Some k ≡ None → ⊥
unfolding IsFound
Some≢None e = subst IsFound e tt

when_none : (b : Bool) (k : ℕ) → when b k ≡ None → b ≡ false
when_none true k e = absurd (Some≢None e)
when_none false k e = refl

both_none : (a b : Option ℕ) → or_else a b ≡ None → (a ≡ None) × (b ≡ None)
both_none None b e = (refl, e)
both_none (Some k) b e = absurd (Some≢None e)

pub lowest_none : (p : ℕ → Bool) (n : ℕ) → lowest p n ≡ None → (k : ℕ) → k < n → p k ≡ false
unfolding lowest first
lowest_none p zero e k l = absurd (not-suc-le-zero l)
lowest_none p (suc n) e k l = go (below_suc l) (both_none (lowest p n) (when (p n) n) e) (λ f. lowest_none p n f k)
  where
    go : (k ≡ n) ⊎ (k < n) → (lowest p n ≡ None) × (when (p n) n ≡ None) → (lowest p n ≡ None → k < n → p k ≡ false) → p k ≡ false
    go (inl r) b ih = ap p r ∙ when_none (p n) n b.1
    go (inr m) b ih = ih b.0 m

-- no k < n passes: nothing is found
pub none_lowest : (p : ℕ → Bool) (n : ℕ) → ((k : ℕ) → k < n → p k ≡ false) → lowest p n ≡ None
unfolding lowest first
none_lowest p zero h = refl
none_lowest p (suc n) h = rw (none_lowest p n (λ k l. h k (le_trans l (le-suc n))), h n (le_refl (suc n))) refl

-- what is found below m is found below any n above m
pub first_stays : (f : ℕ → Option ℕ) (x m n : ℕ) → m ≤ n → first f m ≡ Some x → first f n ≡ Some x
unfolding first
first_stays f x m n l e = le_ind (λ (k : ℕ). first f k ≡ Some x) e (λ k _ h. ap (λ (o : Option ℕ). or_else o (f k)) h) n l

-- k passes, and nothing below it
pub lowest_here : (p : ℕ → Bool) (k n : ℕ) → k < n → lowest p k ≡ None → p k ≡ true → lowest p n ≡ Some k
unfolding lowest first
lowest_here p k n l e t = first_stays (λ j. when (p j) j) k (suc k) n l (λ i. or_else (e i) (when (t i) k))

-- one more, which does not pass
pub lowest_on : (p : ℕ → Bool) (k : ℕ) → lowest p k ≡ None → p k ≡ false → lowest p (suc k) ≡ None
unfolding lowest first
lowest_on p k e t = λ i. or_else (e i) (when (t i) k)

pub lowest_zero : (p : ℕ → Bool) → lowest p 0 ≡ None
unfolding lowest first
lowest_zero p = refl

-- a k that passes is counted
pub count_lt : (p : ℕ → Bool) (k n : ℕ) → k < n → p k ≡ true → count p k < count p n
unfolding count sum
count_lt p k n l t = le_ind (λ (m : ℕ). count p k < count p m) (omega (arith, ap bit t)) (λ m _ h. omega arith) n l

keep_append : (b : Bool) (k : ℕ) (xs ys : List ℕ) → keep b k (xs ++ ys) ≡ keep b k xs ++ ys
keep_append true k xs ys = refl
keep_append false k xs ys = refl

pub those_suc : (p : ℕ → Bool) (a n : ℕ) → those p a (suc n) ≡ those p a n ++ keep (p (a + n)) (a + n) []
unfolding those
those_suc p a zero = ap (λ (x : ℕ). keep (p x) x []) (sym (add-zero a))
those_suc p a (suc n) =
    ap (keep (p a) a) (those_suc p (suc a) n)
    ∙ keep_append (p a) a (those p (suc a) n) (keep (p (suc a + n)) (suc a + n) [])
    ∙ ap (λ (x : ℕ). keep (p a) a (those p (suc a) n) ++ keep (p x) x []) (suc-add a n ∙ sym (add-suc a n))

length_keep : (b : Bool) (k : ℕ) (xs : List ℕ) → length (keep b k xs) ≡ length xs + bit b
length_keep true k xs = omega arith
length_keep false k xs = omega arith

-- N_I is the length of the list of ranked subcarriers
pub length_those : (p : ℕ → Bool) (n : ℕ) → length (those p 0 n) ≡ count p n
unfolding those count sum
length_those p zero = refl
length_those p (suc n) = ap length (those_suc p 0 n) ∙ length-append (those p 0 n) (keep (p (0 + n)) (0 + n) [])
    ∙ ap₂ ◌+◌ (length_those p n) (length_keep (p (0 + n)) (0 + n) [] ∙ ap (λ (k : ℕ). 0 + bit (p k)) (zero-add n) ∙ zero-add (bit (p n)))

-- the k that pass stand in the list at their ranks
pub those_at : (p : ℕ → Bool) (n k : ℕ) → k < n → p k ≡ true → get_or (those p 0 n) (count p k) 0 ≡ k
unfolding count sum
those_at p zero k l t = absurd (not-suc-le-zero l)
those_at p (suc n) k l t = ap (λ (xs : List ℕ). get_or xs (count p k) 0) (those_suc p 0 n) ∙ go (below_suc l) (those_at p n k)
  where
    more : List ℕ
    more = keep (p (0 + n)) (0 + n) []

    go : (k ≡ n) ⊎ (k < n) → (k < n → p k ≡ true → get_or (those p 0 n) (count p k) 0 ≡ k) → get_or (those p 0 n ++ more) (count p k) 0 ≡ k
    go (inr m) ih = get_or-append (those p 0 n) more 0 (count p k) (subst (λ (x : ℕ). count p k < x) (sym (length_those p n)) (count_lt p k n m t)) ∙ ih m t
    go (inl e) ih =
        ap (λ (xs : List ℕ). get_or (those p 0 n ++ xs) (count p k) 0) (ap (λ (x : ℕ). keep (p x) x []) (zero-add n) ∙ ap (λ (b : Bool). keep b n []) (sym (ap p e) ∙ t))
        ∙ get_or_at (those p 0 n) n [] 0 (count p k) (length_those p n ∙ ap (count p) (sym e)) ∙ sym e
