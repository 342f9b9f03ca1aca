-- The n numbers f 0, f 1, .. stored in a list s from place `at` on, number by number or block by block. Assumes nothing.
use Prim.Native.Nat.{ℕ, zero, suc, ◌+◌, ◌≤◌, ◌<◌}
use mathlib.Core.Path.{◌≡◌, refl, sym, ap, ◌∙◌}
use mathlib.Core.List.{List}
use native.Mathlib.Nat.{add-zero, add-suc, suc-add}
use native.Mathlib.Numerals.{add-one}
use native.Mathlib.Omega.{arith}
use lib.ListN.{length, set, take, length-set}
use lib.Seq.{sets, length-sets, take_all}
use Rattle.counting.specs.Search.{tabulate}
use Rattle.counting.proofs.Lists.{length_tabulate, get_d_tabulate, sets_snoc, sets_all}

-- y is the list s with the first i of them stored
pub record Stored (s : List ℕ) (at : ℕ) (f : ℕ → ℕ) (n i : ℕ) (y : List ℕ) : Type 0 where
  pub long : length y ≡ length s
  pub list : y ≡ sets s at (take i (tabulate f n))

module _ (s : List ℕ) (at : ℕ) (f : ℕ → ℕ) (n : ℕ) where
  pub stored_start : Stored s at f n 0 s
  stored_start = record { long = refl; list = refl }

  put_suc : (i b : ℕ) (y : List ℕ) (v : ℕ) → i < n → b ≡ at + i → y ≡ sets s at (take i (tabulate f n)) → v ≡ f i → set y b v ≡ sets s at (take (suc i) (tabulate f n))
  put_suc i b y v h eb e ev = rw (e, eb, ev, ← get_d_tabulate f n 0 i h) (sets_snoc s at (tabulate f n) i (omega (arith, length_tabulate f n)))

  put_block : (g : ℕ → ℕ) (i k b : ℕ) (y : List ℕ) → i + k ≤ n → b ≡ at + i → y ≡ sets s at (take i (tabulate f n)) → ((t : ℕ) → t < k → g t ≡ f (i + t))
      → sets y b (tabulate g k) ≡ sets s at (take (i + k) (tabulate f n))
  unfolding tabulate
  put_block g i zero b y h eb e eg = rw add-zero e
  put_block g i (suc k) b y h eb e eg =
      put_block (λ t. g (suc t)) (suc i) k (suc b) (set y b (g 0)) (omega arith) (omega arith)
      (put_suc i b y (g 0) (omega arith) eb e (eg 0 (omega arith) ∙ ap f (add-zero i)))
      (λ t l. eg (suc t) (omega arith) ∙ ap f (add-suc i t ∙ sym (suc-add i t)))
      ∙ ap (λ (m : ℕ). sets s at (take m (tabulate f n))) (suc-add i k ∙ sym (add-suc i k))

  module _ (i : ℕ) (y : List ℕ) (l : Stored s at f n i y) where
    -- one more number
    pub stored_next : (b v : ℕ) (z : List ℕ) → i < n → b ≡ at + i → v ≡ f i → z ≡ set y b v → Stored s at f n (i + 1) z
    stored_next b v z h eb ev ez = record {
      long = ap length ez ∙ length-set y b v ∙ l.long;
      list = ez ∙ rw add-one (put_suc i b y v h eb l.list ev);
    }

    -- a block of k more
    pub stored_block : (g : ℕ → ℕ) (k b : ℕ) (z : List ℕ) → i + k ≤ n → b ≡ at + i → ((t : ℕ) → t < k → g t ≡ f (i + t)) → z ≡ sets y b (tabulate g k) → Stored s at f n (i + k) z
    stored_block g k b z h eb eg ez = record {
      long = ap length ez ∙ length-sets y b (tabulate g k) ∙ l.long;
      list = ez ∙ put_block g i k b y h eb l.list eg;
    }

    -- as many as there are
    pub stored_all : n ≤ i → y ≡ sets s at (tabulate f n)
    stored_all h = l.list ∙ ap (sets s at) (take_all i (tabulate f n) (omega (arith, length_tabulate f n)))

-- as many as the list is long
pub stored_whole : (s : List ℕ) (f : ℕ → ℕ) (n i : ℕ) (y : List ℕ) → Stored s 0 f n i y → n ≤ i → length s ≡ n → y ≡ tabulate f n
stored_whole s f n i y l h e = stored_all s 0 f n i y l h ∙ sets_all s (tabulate f n) (e ∙ sym (length_tabulate f n))
