-- The rank by counting a key is a bijection of the numbers below n, for any key with no two of them alike. Assumes nothing.
use Prim.Native.Nat.{ℕ, ◌≤◌, ◌<◌}
use mathlib.Core.Path.{◌≡◌, refl, sym, ap, ◌∙◌}
use mathlib.Core.Bool.{Bool, true, false}
use native.Mathlib.Decide.{dec_lt}
use native.Mathlib.Omega.{arith}
use lib.Dec.{ltb, eqb}
use borrow.Author.Tests.{ltb-true, lt-ltb, le-ltb, eqb-true, eq-eqb, ne_eqb}
use Rattle.counting.specs.Search.{bit, sum, count, rank, of_rank}
use Rattle.counting.proofs.Laws.{count_mono_lt}
use Rattle.counting.proofs.Sums.{sum_cong, sum_swap, sum_const, count_eq, count_le_one, all_one, Found, find_counted}

-- no two numbers below n have one image
abbrev pub InjBelow : ℕ → (ℕ → ℕ) → Type 0
InjBelow n f = (p q : ℕ) → p < n → q < n → f p ≡ f q → p ≡ q

-- an injection of the numbers below n into themselves reaches each of them
pub pigeonhole : (n : ℕ) (f : ℕ → ℕ) → InjBelow n f → ((p : ℕ) → p < n → f p < n) → (r : ℕ) → r < n → 1 ≤ count (λ p. eqb (f p) r) n
unfolding count
pigeonhole n f inj low r h = all_one (λ r. sum (λ p. bit (eqb (f p) r)) n) n one total r h
  where
    one : (r : ℕ) → r < n → sum (λ p. bit (eqb (f p) r)) n ≤ 1
    one r h = count_le_one (λ p. eqb (f p) r) n (λ p q hp hq ep eq. inj p q hp hq (eqb-true (f p) r ep ∙ sym (eqb-true (f q) r eq)))

    hit : (a r : ℕ) → bit (eqb a r) ≡ bit (eqb r a)
    hit a r = go (eqb r a) refl
      where
        go : (b : Bool) → eqb r a ≡ b → bit (eqb a r) ≡ bit (eqb r a)
        go true e = ap bit (eq-eqb a r (sym (eqb-true r a e)) ∙ sym e)
        go false e = ap bit (ne_eqb a r (λ g. let z : ◌≡◌ {A = ℕ} 1 0 = ap bit (sym (eq-eqb r a (sym g)) ∙ e) in omega arith) ∙ sym e)

    total : sum (λ r. sum (λ p. bit (eqb (f p) r)) n) n ≡ n
    total =
        sum_swap (λ r p. bit (eqb (f p) r)) n n
        ∙ sum_cong (λ p. sum (λ r. bit (eqb (f p) r)) n) (λ p. 1) n
        (λ p hp. sum_cong (λ r. bit (eqb (f p) r)) (λ r. bit (eqb r (f p))) n (λ r hr. hit (f p) r) ∙ count_eq n (f p) (low p hp))
        ∙ omega (arith, sum_const 1 n)

module _ (key : ℕ → ℕ) (n : ℕ) where
  pub rank_mono : (p q : ℕ) → p < n → key p < key q → rank key n p < rank key n q
  unfolding rank
  rank_mono p q hp h =
      count_mono_lt (λ i. ltb (key i) (key p)) (λ i. ltb (key i) (key q)) p n hp
      (le-ltb (key p) (key p) (omega arith)) (lt-ltb (key p) (key q) h)
      (λ i l e. lt-ltb (key i) (key q) (omega (arith, ltb-true (key i) (key p) e)))

  pub rank_below : (p : ℕ) → p < n → rank key n p < n
  unfolding rank count
  rank_below p hp =
      omega (arith, count_mono_lt (λ i. ltb (key i) (key p)) (λ i. true) p n hp (le-ltb (key p) (key p) (omega arith)) refl (λ i l e. refl), sum_const 1 n)

  module _ (inj : InjBelow n key) where
    pub rank_inj : InjBelow n (rank key n)
    rank_inj p q hp hq e = inj p q hp hq (go (dec_lt (key p) (key q)) (dec_lt (key q) (key p)))
      where
        go : Dec (key p < key q) → Dec (key q < key p) → key p ≡ key q
        go (yes c) y = absurd (omega (arith, rank_mono p q hp c))
        go (no c) (yes d) = absurd (omega (arith, rank_mono q p hq d))
        go (no c) (no d) = omega arith

    -- the cell of a rank, and the rank of that cell
    pub of_rank_found : (r : ℕ) → r < n → Found (λ p. eqb (rank key n p) r) n (of_rank key n r)
    unfolding of_rank
    of_rank_found r h = find_counted (λ p. eqb (rank key n p) r) n (pigeonhole n (rank key n) rank_inj rank_below r h)

    pub of_rank_below : (r : ℕ) → r < n → of_rank key n r < n
    of_rank_below r h = (of_rank_found r h).below

    pub rank-of_rank : (r : ℕ) → r < n → rank key n (of_rank key n r) ≡ r
    rank-of_rank r h = eqb-true (rank key n (of_rank key n r)) r (of_rank_found r h).passes

    pub of_rank-rank : (p : ℕ) → p < n → of_rank key n (rank key n p) ≡ p
    of_rank-rank p h = rank_inj (of_rank key n (rank key n p)) p (of_rank_below (rank key n p) (rank_below p h)) h (rank-of_rank (rank key n p) (rank_below p h))
