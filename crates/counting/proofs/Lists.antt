-- Lists given by a rule, lists of zeros, and lists stored in others. Assumes nothing.
use mathlib.Core.Path.{◌≡◌, refl, sym, ap, ◌∙◌}
use mathlib.Core.Logic.{by_cases}
use mathlib.Core.List.{List, [], ◌∷◌, ◌++◌, map}
use Prim.Native.Nat.{ℕ, zero, suc, ◌+◌, ◌≤◌, ◌<◌, suc-le-suc}
use native.Mathlib.Nat.{not-suc-le-zero, le_of_suc-le-suc, add-zero, add-suc, suc-add, zero-add}
use native.Mathlib.Decide.{dec_lt}
use native.Mathlib.Omega.{arith}
use lib.ListN.{length, get_or, set, take, replicate, length-set}
use lib.Seq.{sets, get_or-set_same, get_or-set_other, ext_get_or, length-sets, length-take-le, get_or-take}
use Rattle.counting.specs.Search.{tabulate}

pub length_tabulate {ℓ} : {A : Type ℓ} (f : ℕ → A) (n : ℕ) → length (tabulate f n) ≡ n
unfolding tabulate
length_tabulate f zero = refl
length_tabulate f (suc n) = ap suc (length_tabulate (λ i. f (suc i)) n)

pub get_d_tabulate {ℓ} : {A : Type ℓ} (f : ℕ → A) (n : ℕ) (d : A) (i : ℕ) → i < n → get_or (tabulate f n) i d ≡ f i
unfolding tabulate
get_d_tabulate f zero d i h = absurd (not-suc-le-zero h)
get_d_tabulate f (suc n) d zero h = refl
get_d_tabulate f (suc n) d (suc i) h = get_d_tabulate (λ j. f (suc j)) n d i (le_of_suc-le-suc h)

pub tabulate_cong {ℓ} : {A : Type ℓ} (f g : ℕ → A) (n : ℕ) → ((i : ℕ) → i < n → f i ≡ g i) → tabulate f n ≡ tabulate g n
unfolding tabulate
tabulate_cong f g zero h = refl
tabulate_cong f g (suc n) h = rw (h 0 (omega arith), tabulate_cong (λ i. f (suc i)) (λ i. g (suc i)) n (λ i l. h (suc i) (suc-le-suc l))) refl

-- a list of n numbers that follow the rule is the list of the rule
pub is_tabulate : (l : List ℕ) (n : ℕ) (f : ℕ → ℕ) → length l ≡ n → ((k : ℕ) → k < n → get_or l k 0 ≡ f k) → l ≡ tabulate f n
is_tabulate l n f e h = ext_get_or 0 l (tabulate f n) (e ∙ sym (length_tabulate f n)) (λ i p. let q : i < n = omega arith in h i q ∙ sym (get_d_tabulate f n 0 i q))

pub append-nil : (xs : List ℕ) → (xs ++ []) ≡ xs
append-nil [] = refl
append-nil (x ∷ xs) = ap (λ (l : List ℕ). x ∷ l) (append-nil xs)

-- a list of zeros, read anywhere
pub zeros : (n k : ℕ) → ◌≡◌ {A = ℕ} (get_or {A = ℕ} (replicate n 0) k 0) 0
zeros zero k = refl
zeros (suc n) zero = refl
zeros (suc n) (suc k) = zeros n k

-- ---- a list stored in another from place i on

-- what stands before the stores stays
pub get_d_sets_before {ℓ} : {A : Type ℓ} (l : List A) (i : ℕ) (vs : List A) (d : A) (k : ℕ) → k < i → get_or (sets l i vs) k d ≡ get_or l k d
get_d_sets_before l i [] d k h = refl
get_d_sets_before l i (a ∷ vs) d k h =
    get_d_sets_before (set l i a) (suc i) vs d k (omega arith) ∙ get_or-set_other l i k a d (omega arith)

-- what stands after them stays
pub get_or-sets_after {ℓ} : {A : Type ℓ} (l : List A) (i : ℕ) (vs : List A) (d : A) (k : ℕ) → i + length vs ≤ k → get_or (sets l i vs) k d ≡ get_or l k d
get_or-sets_after l i [] d k h = refl
get_or-sets_after l i (a ∷ vs) d k h =
    get_or-sets_after (set l i a) (suc i) vs d k (omega arith) ∙ get_or-set_other l i k a d (omega arith)

pub get_or-sets_in {ℓ} : {A : Type ℓ} (l : List A) (i : ℕ) (vs : List A) (d : A) (j : ℕ) → j < length vs → i + j < length l
    → get_or (sets l i vs) (i + j) d ≡ get_or vs j d
get_or-sets_in l i [] d j h k = absurd (not-suc-le-zero h)
get_or-sets_in l i (a ∷ vs) d zero h k =
    rw add-zero
    (get_d_sets_before (set l i a) (suc i) vs d i (omega arith) ∙ get_or-set_same l i a d (omega arith))
get_or-sets_in l i (a ∷ vs) d (suc j) h k =
    rw (add-suc, ← suc-add)
    (get_or-sets_in (set l i a) (suc i) vs d j (le_of_suc-le-suc h) (rw length-set (omega arith)))

-- a list stored from the start on
pub get_or-sets_0 {ℓ} : {A : Type ℓ} (l vs : List A) (d : A) (j : ℕ) → j < length vs → length vs ≤ length l → get_or (sets l 0 vs) j d ≡ get_or vs j d
get_or-sets_0 l vs d j h k = rw (zero-add j) at (get_or-sets_in l 0 vs d j h (omega arith))

pub get_or-map_in {ℓ κ} : {A : Type ℓ} {B : Type κ} (f : A → B) (l : List A) (i : ℕ) (d : A) (d' : B) → i < length l → get_or (map f l) i d' ≡ f (get_or l i d)
get_or-map_in f [] i d d' h = absurd (not-suc-le-zero h)
get_or-map_in f (x ∷ xs) zero d d' h = refl
get_or-map_in f (x ∷ xs) (suc i) d d' h = get_or-map_in f xs i d d' (le_of_suc-le-suc h)

-- ---- for loops that store one element after the other: the list so far is `sets s at (take i x)`

-- one more element stored
pub sets_snoc : (s : List ℕ) (at : ℕ) (x : List ℕ) (i : ℕ) → i < length x → set (sets s at (take i x)) (at + i) (get_or x i 0) ≡ sets s at (take (suc i) x)
sets_snoc s at [] i h = absurd (not-suc-le-zero h)
sets_snoc s at (a ∷ x) zero h = rw add-zero refl
sets_snoc s at (a ∷ x) (suc i) h = rw (add-suc, ← suc-add) (sets_snoc (set s at a) (suc at) x i (le_of_suc-le-suc h))

-- as many stored as there are
pub sets_all : (l vs : List ℕ) → length l ≡ length vs → sets l 0 vs ≡ vs
sets_all l vs e =
    ext_get_or 0 (sets l 0 vs) vs (length-sets l 0 vs ∙ e)
    (λ i h. get_or-sets_0 l vs 0 i (rw (length-sets, e) at h) (omega arith))

-- what was stored from the start on is what stands there
pub take-sets : (b xs : List ℕ) (n : ℕ) → length xs ≡ n → n ≤ length b → take n (sets b 0 xs) ≡ xs
take-sets b xs n e h =
    let size : length (take n (sets b 0 xs)) ≡ n = length-take-le n (sets b 0 xs) (rw length-sets h) in
    ext_get_or 0 (take n (sets b 0 xs)) xs (size ∙ sym e)
    (λ i l. get_or-take n (sets b 0 xs) i 0 (rw size at l) ∙ get_or-sets_0 b xs 0 i (omega arith) (omega arith))

-- ---- a list of n places whose first k hold what a rule says

pub record Laid (f : ℕ → ℕ) (n k : ℕ) (x : List ℕ) : Type 0 where
  pub long : length x ≡ n
  pub below : (i : ℕ) → i < k → get_or x i 0 ≡ f i

pub laid_none : (f : ℕ → ℕ) (x : List ℕ) → Laid f (length x) 0 x
laid_none f x = record { long = refl; below = λ i h. absurd (omega arith) }

-- one place more
pub laid_next : (f : ℕ → ℕ) (n k : ℕ) (x : List ℕ) (v : ℕ) → Laid f n k x → k < n → v ≡ f k → Laid f n (k + 1) (set x k v)
laid_next f n k x v l h e = record {
  long = length-set x k v ∙ l.long;
  below = λ i g.
      by_cases (dec_lt i k)
      (λ c. get_or-set_other x k i v 0 (λ z. omega arith) ∙ l.below i c)
      (λ c. let z : i ≡ k = omega arith in rw z (get_or-set_same x k v 0 (omega (arith, l.long)) ∙ e));
}

pub laid_all : (f : ℕ → ℕ) (n k : ℕ) (x : List ℕ) → Laid f n k x → n ≤ k → x ≡ tabulate f n
laid_all f n k x l h = is_tabulate x n f l.long (λ i g. l.below i (omega arith))
