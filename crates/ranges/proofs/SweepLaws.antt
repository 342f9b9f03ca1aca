-- The runs of a table of ends, found by one sweep. Assumes nothing.
use mathlib.Core.Path.{◌≡◌, refl, ap, ◌∙◌, subst}
use mathlib.Core.Logic.{◌⊎◌, inl, inr}
use mathlib.Core.Bool.{true, false}
use mathlib.Core.List.{List}
use Prim.Native.Nat.{ℕ, zero, suc, ◌+◌, ◌≤◌, ◌<◌, max}
use native.Mathlib.Nat.{le_refl, le-suc, le_trans}
use native.Mathlib.Numerals.{add-one}
use native.Mathlib.Omega.{arith}
use native.Mathlib.Decide.{le_ind}
use lib.ListN.{length, get_or, set}
use lib.Seq.{get_or-set_same, get_or-set_other}
use borrow.Author.Tests.{lt-ltb, le-ltb}
use Rattle.counting.specs.Runs.{Run, Runs, before}
use Rattle.ranges.specs.Reach.{far, hit, Table}
use Rattle.ranges.specs.Swept.{Sweep, Closed}
use Rattle.counting.proofs.Bools.{Less, decide}

far_up : (r : List ℕ) (m n : ℕ) → m ≤ n → far r m ≤ far r n
unfolding far
far_up r m n l = le_ind (λ (j : ℕ). far r m ≤ far r j) (le_refl (far r m)) (λ j w h. omega arith) n l

far_fits : (r : List ℕ) (size : ℕ) → ((k : ℕ) → get_or r k 0 ≤ size) → (n : ℕ) → far r n ≤ size
unfolding far
far_fits r size f zero = omega arith
far_fits r size f (suc n) = omega (arith, far_fits r size f n, f n)

far_next : (r : List ℕ) (k : ℕ) → far r (k + 1) ≡ max (far r k) (get_or r k 0)
unfolding far
far_next r k = ap (far r) (add-one k)

hit_below : (r : List ℕ) (j k : ℕ) → k ≤ suc j → j < far r k → hit r j ≡ true
unfolding hit
hit_below r j k l w = lt-ltb j (far r (suc j)) (omega (arith, far_up r k (suc j) l))

no_hit : (r : List ℕ) (j k : ℕ) → j < k → far r k ≤ j → hit r j ≡ false
unfolding hit
no_hit r j k l w = le-ltb j (far r (suc j)) (omega (arith, far_up r (suc j) k l))

before_old : (hi : List ℕ) (n e i : ℕ) → i ≤ n → before (set hi n e) i ≡ before hi i
before_old hi n e zero l = refl
before_old hi n e (suc i) l = get_or-set_other hi n i e 0 (λ g. omega arith)

module _ (r : List ℕ) (size : ℕ) (t : Table r size) where
  pub sweep_start : (lo hi : List ℕ) → Sweep r size lo hi 0 0 0 0
  unfolding far
  sweep_start lo hi = record {
    upto = refl;
    runs = λ i l. absurd (omega arith);
    sep = λ l. absurd (omega arith);
    gap = λ j l w. absurd (omega arith);
    all = λ j l w. absurd (omega arith);
    many = omega arith;
    fresh = λ l. (refl, refl);
    top = omega arith;
  }

  -- the run grows to the farthest end
  pub sweep_grow : (lo hi : List ℕ) (n s e k q : ℕ) → Sweep r size lo hi n s e k → (get_or r k 0 ≡ 0) ⊎ (k ≤ e) → q ≡ max e (get_or r k 0) → Sweep r size lo hi n s q (k + 1)
  sweep_grow lo hi n s e k q w h is = record {
    upto = far_next r k ∙ omega (arith, w.upto);
    runs = w.runs;
    sep = w.sep;
    gap = w.gap;
    all = λ j l b. go h j l b (decide j e);
    many = w.many;
    fresh = λ l. w.fresh (omega arith);
    top = omega (arith, w.top, t.fits k);
  }
    where
      go : (get_or r k 0 ≡ 0) ⊎ (k ≤ e) → (j : ℕ) → s ≤ j → j < q → Less j e → hit r j ≡ true
      go _ j l b (inl (m, _)) = w.all j l m
      go (inl z) j l b (inr (m, _)) = absurd (omega arith)
      go (inr z) j l b (inr (m, _)) = hit_below r j (k + 1) (omega arith) (omega (arith, far_next r k))

  pub close_some : (lo hi : List ℕ) (n s e k : ℕ) → Sweep r size lo hi n s e k → s < e → n < length lo → n < length hi → Closed r size (set lo n s) (set hi n e) (n + 1) e
  close_some lo hi n s e k w l la lb = record {
    runs = λ i h. go i h (decide i n);
    last = ap (before (set hi n e)) (add-one n) ∙ hi_new;
    many = omega (arith, w.many);
  }
    where
      lo_new : get_or (set lo n s) n 0 ≡ s
      lo_new = get_or-set_same lo n s 0 la

      hi_new : get_or (set hi n e) n 0 ≡ e
      hi_new = get_or-set_same hi n e 0 lb

      old : (i : ℕ) → i < n → Run (hit r) size lo hi i → Run (hit r) size (set lo n s) (set hi n e) i
      old i h one =
          let a : get_or (set lo n s) i 0 ≡ get_or lo i 0 = get_or-set_other lo n i s 0 (λ g. omega arith) in
          let b : get_or (set hi n e) i 0 ≡ get_or hi i 0 = get_or-set_other hi n i e 0 (λ g. omega arith) in
          let c : before (set hi n e) i ≡ before hi i = before_old hi n e i (omega arith) in
          record {
            some = rw (a, b) one.some;
            inside = rw b one.inside;
            after = λ g. rw (a, c) (one.after g);
            all = rw (a, b) one.all;
            gap = rw (a, c) one.gap;
          }

      new : Run (hit r) size (set lo n s) (set hi n e) n
      new =
          let c : before (set hi n e) n ≡ before hi n = before_old hi n e n (le_refl n) in
          record {
            some = rw (lo_new, hi_new) l;
            inside = rw hi_new w.top;
            after = λ g. rw (lo_new, c) (w.sep g);
            all = rw (lo_new, hi_new) w.all;
            gap = rw (lo_new, c) w.gap;
          }

      go : (i : ℕ) → i < n + 1 → Less i n → Run (hit r) size (set lo n s) (set hi n e) i
      go i h (inl (g, _)) = old i g (w.runs i g)
      go i h (inr (g, _)) = let same : n ≡ i = omega arith in subst (Run (hit r) size (set lo n s) (set hi n e)) same new

  pub close_none : (lo hi : List ℕ) (n s e k : ℕ) → Sweep r size lo hi n s e k → e ≤ s → Closed r size lo hi n e
  close_none lo hi n s e k w l =
      let z = w.fresh l in
      record { runs = w.runs; last = ap (before hi) z.0 ∙ omega (arith, z.1); many = omega (arith, z.0) }

  -- a run begins at k, past the end of the last
  pub sweep_new : (lo hi : List ℕ) (n e k q : ℕ) → Closed r size lo hi n e → far r k ≡ e → e < k → q ≡ get_or r k 0 → k < q → Sweep r size lo hi n k q (k + 1)
  sweep_new lo hi n e k q w f l is g = record {
    upto = far_next r k ∙ omega arith;
    runs = w.runs;
    sep = λ _. omega (arith, w.last);
    gap = λ j a b. no_hit r j k b (omega (arith, w.last));
    all = λ j a b. hit_below r j (k + 1) (omega arith) (omega (arith, far_next r k));
    many = omega (arith, w.many);
    fresh = λ h. absurd (omega arith);
    top = omega (arith, t.fits k);
  }

  pub sweep_end : (lo hi : List ℕ) (n e : ℕ) → Closed r size lo hi n e → far r size ≡ e → Runs (hit r) size lo hi n
  sweep_end lo hi n e w f = record { each = w.runs; last = λ j a b. no_hit r j size b (omega (arith, w.last)) }

  -- a block with no first number
  pub sweep_skip : (lo hi : List ℕ) (n s e k m : ℕ) → k ≤ m → ((j : ℕ) → k ≤ j → j < m → get_or r j 0 ≡ 0) → Sweep r size lo hi n s e k → Sweep r size lo hi n s e m
  sweep_skip lo hi n s e k m l z w = le_ind (λ (j : ℕ). ((i : ℕ) → k ≤ i → i < j → get_or r i 0 ≡ 0) → Sweep r size lo hi n s e j)
      (λ g. w)
      (λ j b ih g.
      let zero : get_or r j 0 ≡ 0 = g j b (le_refl (suc j)) in
      let same : e ≡ max e (get_or r j 0) = omega arith in
      subst (Sweep r size lo hi n s e) (add-one j) (sweep_grow lo hi n s e j e (ih (λ i c d. g i c (le_trans d (le-suc j)))) (inl zero) same))
      m l z

pub past_some : (r : List ℕ) (size k q : ℕ) → Table r size → q ≡ get_or r k 0 → (q ≡ 0 → ⊥) → k < q
past_some r size k q t e ne = go (t.past k)
  where
    go : (get_or r k 0 ≡ 0) ⊎ (k < get_or r k 0) → k < q
    go (inl z) = absurd (ne (e ∙ z))
    go (inr l) = omega arith
