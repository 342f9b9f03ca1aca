-- Laws of `select`: there is a c-th number that passes for each c below the count, and it is the only one. Assumes nothing.
use Prim.Native.Nat.{ℕ, zero, suc, ◌<◌}
use mathlib.Core.Path.{◌≡◌, refl, sym, ap, ◌∙◌, subst}
use mathlib.Core.Bool.{Bool, true, false}
use native.Mathlib.Nat.{not-suc-le-zero}
use native.Mathlib.Decide.{dec_lt}
use native.Mathlib.Omega.{arith}
use Rattle.counting.specs.Search.{bit, sum, count, select}
use Rattle.counting.proofs.Laws.{count_ext, count_lt, those_at}

pub count_inj : (t : ℕ → Bool) (p q : ℕ) → t p ≡ true → t q ≡ true → count t p ≡ count t q → p ≡ q
count_inj t p q ep eq e = go (dec_lt p q) (dec_lt q p)
  where
    go : Dec (p < q) → Dec (q < p) → p ≡ q
    go (yes c) y = absurd (omega (arith, count_lt t p q c ep))
    go (no c) (yes d) = absurd (omega (arith, count_lt t q p d eq))
    go (no c) (no d) = omega arith

-- the c-th that passes
pub record Selected (t : ℕ → Bool) (n c i : ℕ) : Type 0 where
  pub below : i < n
  pub passes : t i ≡ true
  pub before : count t i ≡ c

pub select-count : (t : ℕ → Bool) (n p : ℕ) → p < n → t p ≡ true → select t n (count t p) ≡ p
unfolding select
select-count t n p h e = those_at t n p h e

-- there is one for each c below the count
there_is : (t : ℕ → Bool) (n c : ℕ) → c < count t n → (p : ℕ) × Selected t n c p
unfolding count sum
there_is t zero c h = absurd (not-suc-le-zero h)
there_is t (suc n) c h = go (λ k. there_is t n c k) (dec_lt c (count t n)) (t n) refl
  where
    go : (c < count t n → (p : ℕ) × Selected t n c p) → Dec (c < count t n) → (b : Bool) → t n ≡ b → (p : ℕ) × Selected t (suc n) c p
    go ih (yes k) b e =
        let r = ih k in
        (r.0, record { below = omega (arith, r.1.below); passes = r.1.passes; before = r.1.before })
    go ih (no k) true e = (n, record { below = omega arith; passes = e; before = omega (arith, h, ap bit e) })
    go ih (no k) false e = absurd (omega (arith, h, ap bit e))

pub selected : (t : ℕ → Bool) (n c : ℕ) → c < count t n → Selected t n c (select t n c)
selected t n c h =
    let r = there_is t n c h in
    let same : r.0 ≡ select t n c = sym (select-count t n r.0 r.1.below r.1.passes) ∙ ap (select t n) r.1.before in
    subst (Selected t n c) same r.1

-- tests that agree below n select alike
pub select_ext : (t u : ℕ → Bool) (n c : ℕ) → ((k : ℕ) → k < n → t k ≡ u k) → c < count t n → select t n c ≡ select u n c
select_ext t u n c h l =
    let r = selected t n c l in
    let same : count u (select t n c) ≡ c = sym (count_ext t u (select t n c) (λ k b. h k (omega (arith, r.below)))) ∙ r.before in
    sym (ap (select u n) (sym same) ∙ select-count u n (select t n c) r.below (sym (h (select t n c) r.below) ∙ r.passes))
