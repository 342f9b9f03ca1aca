-- The record while a symbol is counted in, and ground 28 of it. Assumes nothing.
use Prim.Native.Nat.{ℕ, zero, suc, ◌+◌, ◌≤◌, ◌<◌}
use mathlib.Core.Path.{◌≡◌, refl, sym, ap, ◌∙◌}
use mathlib.Core.Logic.{by_cases}
use mathlib.Core.Bool.{Bool, true, false, not}
use mathlib.Core.List.{List, ◌∷◌}
use native.Mathlib.Numerals.{add-one}
use native.Mathlib.Decide.{dec_lt}
use native.Mathlib.Omega.{arith}
use lib.Dec.{eqb}
use lib.ListN.{length, get_or, set, length-set}
use lib.Seq.{ext_get_or, get_or-set_same, get_or-set_other}
use borrow.Author.Tests.{eq-eqb, ne_eqb, eqb-true, not-false}
use Rattle.counting.specs.Search.{pick, lowest, is_none, tabulate}
use Rattle.counting.proofs.Bools.{neither}
use Rattle.counting.proofs.Lists.{length_tabulate, get_d_tabulate}
use Rattle.lamprecord.specs.Record.{capped, next_by, bad_count, bad_record}

module _ (cap : ℕ) (t : ℕ → Bool) (n : ℕ) (r : List ℕ) where
  -- the next count of pilot q
  abbrev next : ℕ → ℕ
  next q = pick (t q) (capped cap (get_or r (suc q) 0 + 1)) 0

  -- the counts of i pilots are the new ones, the others the old
  pub record Advanced (i : ℕ) (now : List ℕ) : Type 0 where
    pub long : length now ≡ suc n
    pub first : get_or now 0 0 ≡ get_or r 0 0
    pub done : (q : ℕ) → q < i → get_or now (suc q) 0 ≡ next q
    pub rest : (q : ℕ) → i ≤ q → get_or now (suc q) 0 ≡ get_or r (suc q) 0

  pub advanced_none : length r ≡ suc n → Advanced 0 r
  advanced_none h = record { long = h; first = refl; done = λ q l. absurd (omega arith); rest = λ q l. refl }

  pub advanced_next : (i : ℕ) (now : List ℕ) (v : ℕ) → i < n → Advanced i now → v ≡ pick (t i) (capped cap (get_or now (i + 1) 0 + 1)) 0 → Advanced (i + 1) (set now (i + 1) v)
  advanced_next i now v h f e =
      let old : get_or now (i + 1) 0 ≡ get_or r (suc i) 0 = rw (add-one i) (f.rest i (omega arith)) in
      let new : v ≡ next i = e ∙ ap (λ (c : ℕ). pick (t i) (capped cap (c + 1)) 0) old in
      rw (add-one i) (record {
        long = length-set now (suc i) v ∙ f.long;
        first = get_or-set_other now (suc i) 0 v 0 (λ z. absurd (omega arith)) ∙ f.first;
        done = λ q l.
            by_cases (dec_lt q i)
            (λ c. get_or-set_other now (suc i) (suc q) v 0 (λ z. absurd (omega arith)) ∙ f.done q c)
            (λ c. let z : q ≡ i = omega arith in rw z (get_or-set_same now (suc i) v 0 (omega (arith, f.long)) ∙ new));
        rest = λ q l. get_or-set_other now (suc i) (suc q) v 0 (λ z. absurd (omega arith)) ∙ f.rest q (omega arith);
      })

  -- last the first count
  pub advanced_all : (i : ℕ) (now : List ℕ) (v : ℕ) → n ≤ i → Advanced i now → v ≡ capped cap (get_or now 0 0 + 1) → set now 0 v ≡ next_by cap t n r
  unfolding next_by
  advanced_all i now v h f e =
      ext_get_or 0 (set now 0 v) (capped cap (get_or r 0 0 + 1) ∷ tabulate next n) (length-set now 0 v ∙ f.long ∙ ap suc (sym (length_tabulate next n))) at
    where
      at : (q : ℕ) → q < length (set now 0 v) → get_or (set now 0 v) q 0 ≡ get_or (capped cap (get_or r 0 0 + 1) ∷ tabulate next n) q 0
      at zero l = get_or-set_same now 0 v 0 (omega (arith, length-set now 0 v)) ∙ e ∙ ap (λ (c : ℕ). capped cap (c + 1)) f.first
      at (suc q) l =
          let b : q < n = omega (arith, length-set now 0 v, f.long) in
          get_or-set_other now 0 (suc q) v 0 (λ z. absurd (omega arith)) ∙ f.done q (omega arith) ∙ sym (get_d_tabulate next n 0 q b)

-- ---- 28

module _ (cap n : ℕ) (r : List ℕ) where
  pub bad_length_lem : (length r ≡ suc n → ⊥) → bad_record cap n r ≡ true
  unfolding bad_record
  bad_length_lem h = rw (ne_eqb (length r) (suc n) h) refl

  pub bad_counts : length r ≡ suc n → bad_record cap n r ≡ not (is_none (lowest (bad_count cap r) (length r)))
  unfolding bad_record
  bad_counts h = rw (eq-eqb (length r) (suc n) h) refl

  -- a good record has a count for each pilot
  pub good_length : bad_record cap n r ≡ false → length r ≡ suc n
  unfolding bad_record
  good_length h = eqb-true (length r) (suc n) (not-false (eqb (length r) (suc n)) (neither (not (eqb (length r) (suc n))) _ h).0)
