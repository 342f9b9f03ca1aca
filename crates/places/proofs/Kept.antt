-- What stands where in a store of places, before and after a step, and the closed form of what a list of steps sends, for any delays. Assumes nothing.
use Prim.Native.Nat.{ℕ, zero, suc, ◌+◌, ◌-◌, ◌≤◌, ◌<◌}
use mathlib.Core.Path.{◌≡◌, refl, sym, ap, ◌∙◌}
use mathlib.Core.Logic.{by_cases}
use mathlib.Core.List.{List, [], ◌∷◌, ◌++◌}
use native.Mathlib.Nat.{le_of_suc-le-suc, not-suc-le-zero, min-eq_left}
use native.Mathlib.Decide.{dec_lt}
use native.Mathlib.Omega.{arith}
use lib.ListN.{length, get_or, take, drop, length-append, length-take, length-drop, get_or-append}
use lib.Seq.{get_or-take, get_or-drop, get_or-append-add, get_or_at, length-sets}
use Rattle.counting.specs.Search.{sum}
use Rattle.counting.proofs.Sums.{sum_cong}
use Rattle.counting.proofs.Lists.{length_tabulate, get_d_tabulate, get_or-sets_0, get_or-sets_after}
use Rattle.rules.specs.Places.{joined, places_before, places_and, oldest, moved}
use Rattle.places.specs.Sent.{places_sent}

-- ---- lists one after the other

-- the numbers below k add up to at least those below p and one more
pub sum_grow : (d : ℕ → ℕ) (p k : ℕ) → p < k → sum d p + d p ≤ sum d k
unfolding sum
sum_grow d p zero g = absurd (not-suc-le-zero g)
sum_grow d p (suc k) g =
    by_cases (dec_lt p k)
    (λ c. omega (arith, sum_grow d p k c))
    (λ c. let e : k ≡ p = omega arith in rw e (omega arith))

pub length_joined : (f : ℕ → List ℕ) (n : ℕ) → length (joined f n) ≡ sum (λ p. length (f p)) n
unfolding joined sum
length_joined f zero = refl
length_joined f (suc n) = length-append (joined f n) (f n) ∙ ap (λ (x : ℕ). x + length (f n)) (length_joined f n)

pub get_or_joined : (f : ℕ → List ℕ) (n p i : ℕ) → p < n → i < length (f p) → get_or (joined f n) (sum (λ p. length (f p)) p + i) 0 ≡ get_or (f p) i 0
unfolding joined
get_or_joined f zero p i h l = absurd (not-suc-le-zero h)
get_or_joined f (suc n) p i h l =
    by_cases (dec_lt p n)
    (λ c.
    get_or-append (joined f n) (f n) 0 (sum (λ p. length (f p)) p + i) (omega (arith, sum_grow (λ p. length (f p)) p n c, length_joined f n))
    ∙ get_or_joined f n p i c l)
    (λ c.
    let e : p ≡ n = omega arith in
    let l' : i < length (f n) = rw e at l in
    rw e (ap (λ (k : ℕ). get_or (joined f n ++ f n) (k + i) 0) (sym (length_joined f n)) ∙ get_or-append-add (joined f n) (f n) i 0))

-- lists of known lengths
pub joined_length : (f : ℕ → List ℕ) (d : ℕ → ℕ) (n : ℕ) → ((p : ℕ) → p < n → length (f p) ≡ d p) → length (joined f n) ≡ places_before d n
unfolding places_before
joined_length f d n h = length_joined f n ∙ sum_cong (λ p. length (f p)) d n h

pub joined_at : (f : ℕ → List ℕ) (d : ℕ → ℕ) (n : ℕ) → ((p : ℕ) → p < n → length (f p) ≡ d p) → (p i : ℕ) → p < n → i < d p
    → get_or (joined f n) (places_before d p + i) 0 ≡ get_or (f p) i 0
unfolding places_before
joined_at f d n h p i hp hi =
    ap (λ (k : ℕ). get_or (joined f n) (k + i) 0) (sym (sum_cong (λ p. length (f p)) d p (λ q l. h q (omega arith))))
    ∙ get_or_joined f n p i hp (omega (arith, h p hp))

-- ---- where the places of a cell begin, and where a place stands

pub start_suc : (d : ℕ → ℕ) (p : ℕ) → places_before d (suc p) ≡ places_before d p + d p
unfolding places_before sum
start_suc d p = refl

pub start_grow : (d : ℕ → ℕ) (p k : ℕ) → p < k → places_before d p + d p ≤ places_before d k
unfolding places_before
start_grow d p k h = sum_grow d p k h

-- place k is one of the places of a cell below n
pub record Within (d : ℕ → ℕ) (n k : ℕ) : Type 0 where
  pub cell : ℕ
  pub nth : ℕ
  pub below : cell < n
  pub inside : nth < d cell
  pub is : k ≡ places_before d cell + nth

pub within : (d : ℕ → ℕ) (n k : ℕ) → k < places_before d n → Within d n k
within d zero k h = absurd (let e : places_before d 0 ≡ 0 = unfold places_before sum in refl in omega arith)
within d (suc n) k h =
    by_cases (dec_lt k (places_before d n))
    (λ c.
    let w : Within d n k = within d n k c in
    record { cell = w.cell; nth = w.nth; below = omega (arith, w.below); inside = w.inside; is = w.is })
    (λ c. record { cell = n; nth = k - places_before d n; below = omega arith; inside = omega (arith, start_suc d n); is = omega arith })

-- ---- one step

module _ (d : ℕ → ℕ) where
  module _ (n : ℕ) (s x : List ℕ) (long : places_before d n ≤ length s) where
    -- the places of cell p
    places_length : (p : ℕ) → p < n → length (take (d p) (drop (places_before d p) s)) ≡ d p
    places_length p hp =
        length-take (d p) (drop (places_before d p) s)
        ∙ min-eq_left (let h : d p ≤ length (drop (places_before d p) s) = omega (arith, length-drop (places_before d p) s, start_grow d p n hp) in h)

    pub place_old : (p i : ℕ) → p < n → i < d p → get_or (places_and d s x p) i 0 ≡ get_or s (places_before d p + i) 0
    unfolding places_and
    place_old p i hp h =
        get_or-append (take (d p) (drop (places_before d p) s)) (get_or x p 0 ∷ []) 0 i (omega (arith, places_length p hp))
        ∙ get_or-take (d p) (drop (places_before d p) s) i 0 h ∙ get_or-drop (places_before d p) s i 0

    pub place_new : (p i : ℕ) → p < n → i ≡ d p → get_or (places_and d s x p) i 0 ≡ get_or x p 0
    unfolding places_and
    place_new p i hp e = get_or_at (take (d p) (drop (places_before d p) s)) (get_or x p 0) [] 0 i (places_length p hp ∙ sym e)

    rest_length : (p : ℕ) → p < n → length (drop 1 (places_and d s x p)) ≡ d p
    unfolding places_and
    rest_length p hp =
        length-drop 1 (places_and d s x p)
        ∙ omega (arith, length-append (take (d p) (drop (places_before d p) s)) (get_or x p 0 ∷ []), places_length p hp)

    -- place i of cell p after the step
    pub moved_at : (p i : ℕ) → p < n → i < d p → get_or (moved d n s x) (places_before d p + i) 0 ≡ get_or (places_and d s x p) (suc i) 0
    unfolding moved
    moved_at p i hp h =
        let f : ℕ → List ℕ = λ p. drop 1 (places_and d s x p) in
        let l : length (joined f n) ≡ places_before d n = joined_length f d n rest_length in
        get_or-sets_0 s (joined f n) 0 (places_before d p + i) (omega (arith, start_grow d p n hp)) (omega arith)
        ∙ joined_at f d n rest_length p i hp h
        ∙ get_or-drop 1 (places_and d s x p) i 0 ∙ ap (λ (k : ℕ). get_or (places_and d s x p) k 0) (let e : 1 + i ≡ suc i = omega arith in e)

    -- what stands past the places
    pub moved_past : (k : ℕ) → places_before d n ≤ k → get_or (moved d n s x) k 0 ≡ get_or s k 0
    unfolding moved
    moved_past k h =
        let f : ℕ → List ℕ = λ p. drop 1 (places_and d s x p) in
        get_or-sets_after s 0 (joined f n) 0 k (omega (arith, joined_length f d n rest_length))

  pub length_moved : (n : ℕ) (s x : List ℕ) → length (moved d n s x) ≡ length s
  unfolding moved
  length_moved n s x = length-sets s 0 (joined (λ p. drop 1 (places_and d s x p)) n)

  pub length_oldest : (n : ℕ) (s x : List ℕ) → length (oldest d n s x) ≡ n
  unfolding oldest
  length_oldest n s x = length_tabulate (λ p. get_or (places_and d s x p) 0 0) n

  pub oldest_at : (n : ℕ) (s x : List ℕ) (p : ℕ) → p < n → get_or (oldest d n s x) p 0 ≡ get_or (places_and d s x p) 0 0
  unfolding oldest
  oldest_at n s x p hp = get_d_tabulate (λ p. get_or (places_and d s x p) 0 0) n 0 p hp

-- ---- a list of steps: cell p of the i-th sent is place i of cell p or, d p steps later, that of the symbol given

module _ (d : ℕ → ℕ) (n : ℕ) where
  pub length-places_sent : (s : List ℕ) (xs : List (List ℕ)) → length (places_sent d n s xs) ≡ length xs
  unfolding places_sent
  length-places_sent s [] = refl
  length-places_sent s (x ∷ xs) = ap suc (length-places_sent (moved d n s x) xs)

  pub length_cells : (s : List ℕ) (xs : List (List ℕ)) (i : ℕ) → i < length xs → length (get_or (places_sent d n s xs) i []) ≡ n
  unfolding places_sent
  length_cells s [] i h = absurd (not-suc-le-zero h)
  length_cells s (x ∷ xs) zero h = length_oldest d n s x
  length_cells s (x ∷ xs) (suc i) h = length_cells (moved d n s x) xs i (le_of_suc-le-suc h)

  pub early : (xs : List (List ℕ)) (s : List ℕ) → places_before d n ≤ length s → (i p : ℕ) → i < length xs → p < n → i < d p
      → get_or (get_or (places_sent d n s xs) i []) p 0 ≡ get_or s (places_before d p + i) 0
  unfolding places_sent
  early [] s hs i p hi hp h = absurd (not-suc-le-zero hi)
  early (x ∷ xs) s hs zero p hi hp h = oldest_at d n s x p hp ∙ place_old d n s x hs p 0 hp h
  early (x ∷ xs) s hs (suc i) p hi hp h =
      early xs (moved d n s x) (rw length_moved hs) i p (le_of_suc-le-suc hi) hp (omega arith)
      ∙ moved_at d n s x hs p i hp (omega arith) ∙ place_old d n s x hs p (suc i) hp h

  pub late : (xs : List (List ℕ)) (s : List ℕ) → places_before d n ≤ length s → (i p : ℕ) → i < length xs → p < n → d p ≤ i
      → get_or (get_or (places_sent d n s xs) i []) p 0 ≡ get_or (get_or xs (i - d p) []) p 0
  unfolding places_sent
  late [] s hs i p hi hp h = absurd (not-suc-le-zero hi)
  late (x ∷ xs) s hs zero p hi hp h =
      let z : 0 - d p ≡ 0 = omega arith in
      oldest_at d n s x p hp ∙ place_new d n s x hs p 0 hp (omega arith) ∙ rw z refl
  late (x ∷ xs) s hs (suc i) p hi hp h =
      by_cases (dec_lt i (d p))
      (λ c.
      let z : suc i - d p ≡ 0 = omega arith in
      early xs (moved d n s x) (rw length_moved hs) i p (le_of_suc-le-suc hi) hp c
      ∙ moved_at d n s x hs p i hp c ∙ place_new d n s x hs p (suc i) hp (omega arith) ∙ rw z refl)
      (λ c.
      let z : suc i - d p ≡ suc (i - d p) = omega arith in
      late xs (moved d n s x) (rw length_moved hs) i p (le_of_suc-le-suc hi) hp (omega arith) ∙ rw z refl)
