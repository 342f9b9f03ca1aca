-- Adding up, counting and searching among the numbers below n. A loop that runs k upward from 0 keeps `count p k`, `first f k` or
-- `those p k`: each is defined by its last step, so that the loop's step is the definition. Assumes nothing.
use Rattle.std.specs.Prelude.{ℕ, zero, suc, ◌+◌, Bool, true, false, List, [], ◌∷◌, ltb, eqb, get_or, Option, Some, None, unwrap_or}

abbrev pub bit : Bool → ℕ
bit true = 1
bit false = 0

-- a if the test passed, else b
abbrev pub pick {ℓ} : {A : Type ℓ} → Bool → A → A → A
pick true a b = a
pick false a b = b

-- f 0 + f 1 + .. + f (n - 1)
unfoldable pub sum : (ℕ → ℕ) → ℕ → ℕ
sum f zero = zero
sum f (suc n) = sum f n + f n

-- how many k < n pass the test
unfoldable pub count : (ℕ → Bool) → ℕ → ℕ
count p n = sum (λ k. bit (p k)) n

-- k, if the test passed
abbrev pub when : Bool → ℕ → Option ℕ
when true k = Some k
when false k = None

abbrev pub or_else : Option ℕ → Option ℕ → Option ℕ
or_else (Some k) b = Some k
or_else None b = b

-- the first of f 0, f 1, .., f (n - 1) that is something. (What a `let` binds is computed only where it is read: here, where nothing was found below n.)
unfoldable pub first : (ℕ → Option ℕ) → ℕ → Option ℕ
first f zero = None
first f (suc n) = let r = f n in or_else (first f n) r

-- the lowest k < n that passes
unfoldable pub lowest : (ℕ → Bool) → ℕ → Option ℕ
lowest p n = first (λ k. when (p k) k) n

-- the highest k < n that passes
unfoldable pub highest : (ℕ → Bool) → ℕ → Option ℕ
highest p zero = None
highest p (suc n) = let r = highest p n in or_else (when (p n) n) r

abbrev pub keep : Bool → ℕ → List ℕ → List ℕ
keep true k ks = k ∷ ks
keep false k ks = ks

-- those of a, a + 1, .., a + n - 1 that pass, in rising order
unfoldable pub those : (ℕ → Bool) → ℕ → ℕ → List ℕ
those p a zero = []
those p a (suc n) = keep (p a) a (those p (suc a) n)

abbrev pub is_none : Option ℕ → Bool
is_none None = true
is_none (Some k) = false

-- the list f 0, f 1, .., f (n - 1)
unfoldable pub tabulate {ℓ} : {A : Type ℓ} → (ℕ → A) → ℕ → List A
tabulate f zero = []
tabulate f (suc n) = f 0 ∷ tabulate (λ i. f (suc i)) n

-- the k < n that passes and has c others that pass below it
unfoldable pub select : (ℕ → Bool) → ℕ → ℕ → ℕ
select p n c = get_or (those p 0 n) c 0

-- the highest k < n that passes, 0 if none does
unfoldable pub find : (ℕ → Bool) → ℕ → ℕ
find p n = unwrap_or (highest p n) 0

-- the rank of q among the numbers below n, in the order of rising key: how many come before it
unfoldable pub rank : (ℕ → ℕ) → ℕ → ℕ → ℕ
rank key n q = count (λ k. ltb (key k) (key q)) n

-- the number below n that has the rank r
unfoldable pub of_rank : (ℕ → ℕ) → ℕ → ℕ → ℕ
of_rank key n r = find (λ q. eqb (rank key n q) r) n

-- the list has 0 at place k
unfoldable pub is_zero : List ℕ → ℕ → Bool
is_zero l k = eqb (get_or l k 0) 0
