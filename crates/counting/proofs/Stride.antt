-- A loop that goes through a list by steps of m. Assumes nothing.
use Prim.Native.Nat.{ℕ, ◌+◌, ◌≤◌, ◌<◌}
use mathlib.Core.Path.{◌≡◌, sym, ◌∙◌}
use mathlib.Core.Logic.{by_cases}
use mathlib.Core.List.{List}
use native.Mathlib.Decide.{dec_lt, ℕ_discrete}
use native.Mathlib.Omega.{arith}
use lib.ListN.{length, get_or, set}
use lib.Seq.{get_or-set_same, get_or-set_other}
use Rattle.counting.specs.Search.{tabulate}
use Rattle.counting.proofs.Lists.{is_tabulate}

-- below p the list has f, from p on still g
pub record Upto (n p : ℕ) (f g : ℕ → ℕ) (l : List ℕ) : Type 0 where
  pub done : (q : ℕ) → q < n → q < p → get_or l q 0 ≡ f q
  pub rest : (q : ℕ) → q < n → p ≤ q → get_or l q 0 ≡ g q

-- between p and p + m nothing changes
abbrev pub Gap : ℕ → ℕ → (ℕ → ℕ) → (ℕ → ℕ) → Type 0
Gap p m f g = (q : ℕ) → p < q → q < p + m → f q ≡ g q

-- one step: place p is stored
pub stride_put : (n m p : ℕ) (f g : ℕ → ℕ) (l : List ℕ) → Gap p m f g → Upto n p f g l
    → (y : List ℕ) (v : ℕ) → 0 < m → y ≡ set l p v → p < length l → v ≡ f p → Upto n (p + m) f g y
stride_put n m p f g l gap u y v pos ey h e = record {
  done = λ q hq k.
      rw ey
      (by_cases (ℕ_discrete q p)
      (λ z. rw z (get_or-set_same l p v 0 h ∙ e))
      (λ z.
      get_or-set_other l p q v 0 z
      ∙ by_cases (dec_lt q p) (λ c. u.done q hq c) (λ c. u.rest q hq (omega arith) ∙ sym (gap q (omega arith) k))));
  rest = λ q hq k. rw ey (get_or-set_other l p q v 0 (λ z. absurd (omega arith)) ∙ u.rest q hq (omega arith));
}

pub upto_all : (n p : ℕ) (f g : ℕ → ℕ) (l : List ℕ) → length l ≡ n → n ≤ p → Upto n p f g l → l ≡ tabulate f n
upto_all n p f g l e h u = is_tabulate l n f e (λ q hq. u.done q hq (omega arith))
