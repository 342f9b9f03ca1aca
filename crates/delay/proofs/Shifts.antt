-- A store that goes one place down, place after place. Assumes nothing.
use Prim.Native.Nat.{ℕ, ◌+◌, ◌≤◌, ◌<◌}
use mathlib.Core.Path.{◌≡◌, refl, sym, ◌∙◌}
use mathlib.Core.Logic.{by_cases}
use mathlib.Core.List.{List}
use native.Mathlib.Nat.{not-suc-le-zero}
use native.Mathlib.Decide.{dec_lt}
use native.Mathlib.Omega.{arith}
use lib.ListN.{length, get_or, set}
use borrow.Author.Tests.{lt-ltb, le-ltb}
use Rattle.counting.proofs.Lists.{length_tabulate, get_d_tabulate, is_tabulate}
use Rattle.counting.proofs.Stride.{Upto, stride_put}
use Rattle.delay.specs.Shift.{next_place, shifted}

pub next_in : (n : ℕ) (s : List ℕ) (k : ℕ) → k + 1 < n → next_place n s k ≡ get_or s (k + 1) 0
unfolding next_place
next_in n s k h = rw (lt-ltb (k + 1) n h) refl

pub next_out : (n : ℕ) (s : List ℕ) (k : ℕ) → n ≤ k + 1 → next_place n s k ≡ get_or s k 0
unfolding next_place
next_out n s k h = rw (le-ltb (k + 1) n h) refl

pub length_shifted : (n : ℕ) (s : List ℕ) → length (shifted n s) ≡ length s
unfolding shifted
length_shifted n s = length_tabulate (next_place n s) (length s)

pub get_or_shifted : (n : ℕ) (s : List ℕ) (k : ℕ) → k < length s → get_or (shifted n s) k 0 ≡ next_place n s k
unfolding shifted
get_or_shifted n s k h = get_d_tabulate (next_place n s) (length s) 0 k h

-- ---- a list that is stored to place after place

pub upto_none : (f : ℕ → ℕ) (s : List ℕ) → Upto (length s) 0 f (λ q. get_or s q 0) s
upto_none f s = record { done = λ q hq k. absurd (not-suc-le-zero k); rest = λ q hq k. refl }

pub upto_put : (n p : ℕ) (f g : ℕ → ℕ) (l : List ℕ) (v : ℕ) → Upto n p f g l → p < length l → v ≡ f p → Upto n (p + 1) f g (set l p v)
upto_put n p f g l v u h e = stride_put n 1 p f g l (λ q lo hi. absurd (omega arith)) u (set l p v) v (omega arith) refl h e

pub next_all : (n : ℕ) (s l : List ℕ) (k : ℕ) → length l ≡ length s → n ≤ k + 1 → Upto (length s) k (next_place n s) (λ q. get_or s q 0) l → l ≡ shifted n s
unfolding shifted
next_all n s l k e h u =
    is_tabulate l (length s) (next_place n s) e
    (λ q hq. by_cases (dec_lt q k) (λ c. u.done q hq c) (λ c. u.rest q hq (omega arith) ∙ sym (next_out n s q (omega arith))))
