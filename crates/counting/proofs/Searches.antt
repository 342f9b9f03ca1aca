-- Laws of searches and counts over stretches. Assumes nothing.
use mathlib.Core.Path.{◌≡◌, refl, sym, ap, ap₂, ◌∙◌, subst}
use mathlib.Core.Bool.{Bool, true, false}
use Rattle.std.specs.Prelude.{Option, Some, None}
use Rattle.std.proofs.lemmas.Option.{none-some, same_Some}
use Prim.Native.Nat.{ℕ, zero, suc, ◌+◌, ◌-◌, ◌≤◌, ◌<◌}
use native.Mathlib.Nat.{le_refl, le-suc, le_trans}
use native.Mathlib.Numerals.{add-one}
use native.Mathlib.Omega.{arith}
use native.Mathlib.Decide.{le_ind}
use Rattle.counting.specs.Search.{bit, sum, count, when, or_else, first, lowest, highest}
use Rattle.counting.proofs.Bools.{by_test}
use Rattle.counting.proofs.Laws.{lowest_here, lowest_none, none_lowest, first_stays}
use Rattle.counting.specs.Runs.{All, NoneIn}

pub or_none : (o : Option ℕ) → or_else o None ≡ o
or_none None = refl
or_none (Some k) = refl

-- nothing found from m on
pub first_skip : (f : ℕ → Option ℕ) (m n : ℕ) → m ≤ n → ((k : ℕ) → m ≤ k → k < n → f k ≡ None) → first f n ≡ first f m
unfolding first
first_skip f m n l h = le_ind (λ (j : ℕ). ((k : ℕ) → m ≤ k → k < j → f k ≡ None) → first f j ≡ first f m)
    (λ g. refl)
    (λ j b ih g. ap₂ or_else (ih (λ k b' w. g k b' (le_trans w (le-suc j)))) (g j b (le_refl (suc j))) ∙ or_none (first f m))
    n l h

pub first_none : (f : ℕ → Option ℕ) (n : ℕ) → ((k : ℕ) → k < n → f k ≡ None) → first f n ≡ None
unfolding first
first_none f n h = first_skip f 0 n (omega arith) (λ k _ w. h k w)

-- of a to u - 1 only a may be something
pub first_over : (f : ℕ → Option ℕ) (a u : ℕ) → a < u → ((k : ℕ) → a < k → k < u → f k ≡ None) → first f u ≡ or_else (first f a) (f a)
unfolding first
first_over f a u l h = first_skip f (suc a) u l h

-- a search that starts at a
module _ (p : ℕ → Bool) (a n : ℕ) where
  pub from_none : NoneIn p a (a + n) → first (λ i. when (p (a + i)) (a + i)) n ≡ None
  from_none h = first_none _ n (λ k w. ap (λ (b : Bool). when b (a + k)) (h (a + k) (omega arith) (omega arith)))

  pub from_some : (s : ℕ) → a ≤ s → s < a + n → p s ≡ true → NoneIn p a s → first (λ i. when (p (a + i)) (a + i)) n ≡ Some s
  unfolding first
  from_some s l w t h =
      let e : a + (s - a) ≡ s = omega arith in
      let f : ℕ → Option ℕ = λ i. when (p (a + i)) (a + i) in
      let here : f (s - a) ≡ Some s = subst (λ (x : ℕ). when (p x) x ≡ Some s) (sym e) (ap (λ (b : Bool). when b s) t) in
      let below : first f (s - a) ≡ None = first_none f (s - a) (λ k w'. ap (λ (b : Bool). when b (a + k)) (h (a + k) (omega arith) (omega arith))) in
      first_stays f s (suc (s - a)) n (omega arith) (ap₂ or_else below here)

pub highest_at : (p : ℕ → Bool) (b n : ℕ) → b < n → p b ≡ true → NoneIn p (suc b) n → highest p n ≡ Some b
unfolding highest
highest_at p b n l t h = le_ind (λ (j : ℕ). NoneIn p (suc b) j → highest p j ≡ Some b)
    (λ g. ap (λ (x : Bool). or_else (when x b) (highest p b)) t)
    (λ j w ih g. ap (λ (x : Bool). or_else (when x j) (highest p j)) (g j w (le_refl (suc j))) ∙ ih (λ k b' w'. g k b' (le_trans w' (le-suc j))))
    n l h

pub lowest_at : (p : ℕ → Bool) (k n : ℕ) → k < n → p k ≡ true → NoneIn p 0 k → lowest p n ≡ Some k
lowest_at p k n l t h = lowest_here p k n l (none_lowest p k (λ j w. h j (omega arith) w)) t

pub count_up : (p : ℕ → Bool) (m n : ℕ) → m ≤ n → count p m ≤ count p n
unfolding count sum
count_up p m n l = le_ind (λ (j : ℕ). count p m ≤ count p j) (le_refl (count p m)) (λ j w h. omega arith) n l

pub count_all : (p : ℕ → Bool) (a b : ℕ) → a ≤ b → All p a b → count p b + a ≡ count p a + b
unfolding count sum
count_all p a b l h = le_ind (λ (j : ℕ). All p a j → count p j + a ≡ count p a + j)
    (λ g. refl)
    (λ j w ih g. omega (arith, ih (λ k b' w'. g k b' (le_trans w' (le-suc j))), ap bit (g j w (le_refl (suc j)))))
    b l h

pub count_no : (p : ℕ → Bool) (a b : ℕ) → a ≤ b → NoneIn p a b → count p b ≡ count p a
unfolding count sum
count_no p a b l h = le_ind (λ (j : ℕ). NoneIn p a j → count p j ≡ count p a)
    (λ g. refl)
    (λ j w ih g. omega (arith, ih (λ k b' w'. g k b' (le_trans w' (le-suc j))), ap bit (g j w (le_refl (suc j)))))
    b l h

-- one more, as the code counts
pub count_next : (p : ℕ → Bool) (k : ℕ) → p k ≡ true → count p (suc k) ≡ suc (count p k)
unfolding count sum
count_next p k t = omega (arith, ap bit t)

pub first_ext : (f g : ℕ → Option ℕ) (n : ℕ) → ((k : ℕ) → k < n → f k ≡ g k) → first f n ≡ first g n
unfolding first
first_ext f g zero h = refl
first_ext f g (suc n) h = ap₂ or_else (first_ext f g n (λ k l. h k (le_trans l (le-suc n)))) (h n (le_refl (suc n)))

-- tests that agree below n find the same
pub lowest_ext : (t u : ℕ → Bool) (n : ℕ) → ((k : ℕ) → k < n → t k ≡ u k) → lowest t n ≡ lowest u n
unfolding lowest
lowest_ext t u n h = first_ext (λ k. when (t k) k) (λ k. when (u k) k) n (λ k l. ap (λ (b : Bool). when b k) (h k l))

-- a loop that searches: nothing yet, and found
pub search_on : (f : ℕ → Option ℕ) (j : ℕ) → first f j ≡ None → f j ≡ None → first f (j + 1) ≡ None
unfolding first
search_on f j e g = ap (first f) (add-one j) ∙ ap₂ or_else e g

pub search_here : (f : ℕ → Option ℕ) (j n k : ℕ) → j < n → first f j ≡ None → f j ≡ Some k → first f n ≡ Some k
unfolding first
search_here f j n k l e g = first_stays f k (suc j) n l (ap₂ or_else e g)

pub first_zero : (f : ℕ → Option ℕ) → first f 0 ≡ None
unfolding first
first_zero f = refl

-- what the lowest is: it passes, and nothing below it does
pub record Lowest (t : ℕ → Bool) (n k : ℕ) : Type 0 where
  pub below : k < n
  pub passes : t k ≡ true
  pub none_under : (j : ℕ) → j < k → t j ≡ false

pub lowest_some : (t : ℕ → Bool) (n k : ℕ) → lowest t n ≡ Some k → Lowest t n k
unfolding lowest first
lowest_some t zero k e = absurd (none-some k e)
lowest_some t (suc n) k e = go (lowest t n) refl e (λ f. lowest_some t n k f)
  where
    go : (o : Option ℕ) → lowest t n ≡ o → or_else o (when (t n) n) ≡ Some k → (lowest t n ≡ Some k → Lowest t n k) → Lowest t (suc n) k
    go None f g ih =
        by_test (t n)
        (λ p.
        let z : n ≡ k = same_Some n k (sym (ap (λ (x : Bool). when x n) p) ∙ g) in
        record { below = omega arith; passes = ap t (sym z) ∙ p; none_under = λ j l. lowest_none t n f j (omega arith) })
        (λ p. absurd (none-some k (sym (ap (λ (x : Bool). when x n) p) ∙ g)))
    go (Some m) f g ih =
        let r : Lowest t n k = ih (f ∙ g) in
        record { below = omega (arith, r.below); passes = r.passes; none_under = r.none_under }
