-- The excluded subcarriers painted run by run, and what a search over the painted array says of them. Assumes nothing.
use Prim.Native.Nat.{ℕ, zero, suc, ◌+◌, ◌≤◌, ◌<◌}
use mathlib.Core.Path.{◌≡◌, refl, sym, ap, ap₂, ◌∙◌}
use mathlib.Core.Logic.{◌⊎◌, inl, inr}
use mathlib.Core.Bool.{Bool, true, false, not, ◌&&◌}
use mathlib.Core.List.{List}
use native.Mathlib.Numerals.{add-one}
use native.Mathlib.Omega.{arith}
use lib.Dec.{ltb, eqb}
use lib.ListN.{length, get_or}
use borrow.Author.Tests.{lt-ltb, le-ltb}
use Rattle.counting.specs.Search.{is_zero}
use Rattle.counting.specs.Runs.{Run, Runs, before}
use Rattle.counting.proofs.Bools.{Less, decide, and_false}
use Rattle.rules.specs.Roles.{excluded_mark, first_mark}
use Rattle.rules.specs.Fits.{capacity}
use Rattle.marks.specs.Marked.{Cells}
use Rattle.marks.specs.Stages.{between, Stamped, FirstOf, painted}
use Rattle.marks.proofs.Stretches.{cells_same, cells_spread}

-- the test, below b
abbrev pub up_to : (ℕ → Bool) → ℕ → ℕ → Bool
up_to e b k = ltb k b && e k

painted_same : (e f : ℕ → Bool) (k : ℕ) → e k ≡ f k → painted e k ≡ painted f k
unfolding painted
painted_same e f k h = ap (λ (b : Bool). first_mark b false false) h

painted_true : (e : ℕ → Bool) (k : ℕ) → e k ≡ true → painted e k ≡ excluded_mark
unfolding painted
painted_true e k h = ap (λ (b : Bool). first_mark b false false) h

painted_false : (e : ℕ → Bool) (k : ℕ) → e k ≡ false → painted e k ≡ 0
unfolding painted
painted_false e k h = ap (λ (b : Bool). first_mark b false false) h

module _ (e : ℕ → Bool) (size : ℕ) where
  -- all cells are clear
  pub paint_start : (l m : List ℕ) → length l ≡ capacity → Stamped 0 (between 0 size) l m → Cells size (painted (up_to e 0)) m
  paint_start l m s w =
      cells_spread size (λ k. get_or l k 0) (painted (up_to e 0)) 0 0 size l m (record { long = s; cell = λ k h. refl }) w
      (λ k h _ _. sym (painted_false (up_to e 0) k (ap (λ (b : Bool). b && e k) (le-ltb k 0 (omega arith)))))
      (λ k h o. absurd (never k h o))
    where
      never : (k : ℕ) → k < size → (k < 0) ⊎ (size ≤ k) → ⊥
      never k h (inl a) = omega arith
      never k h (inr a) = omega arith

  before_le : (lo hi : List ℕ) (i : ℕ) → Run e size lo hi i → before hi i ≤ get_or lo i 0
  before_le lo hi zero one = omega arith
  before_le lo hi (suc i) one = omega (arith, one.after (omega arith))

  -- run i is painted
  pub paint_more : (lo hi : List ℕ) (n i : ℕ) (l m : List ℕ) → Runs e size lo hi n → i < n → Cells size (painted (up_to e (before hi i))) l
      → Stamped excluded_mark (between (get_or lo i 0) (get_or hi i 0)) l m → Cells size (painted (up_to e (before hi (i + 1)))) m
  paint_more lo hi n i l m r w c s =
      rw (add-one i) (cells_spread size (painted (up_to e (before hi i))) (painted (up_to e (get_or hi i 0))) excluded_mark (get_or lo i 0) (get_or hi i 0) l m c s
      (λ k h a b. sym (painted_true (up_to e (get_or hi i 0)) k (ap₂ (λ (x y : Bool). x && y) (lt-ltb k (get_or hi i 0) b) (one.all k a b))))
      (λ k h o. painted_same (up_to e (before hi i)) (up_to e (get_or hi i 0)) k (go k o (decide k (before hi i)))))
    where
      one : Run e size lo hi i
      one = r.each i w

      go : (k : ℕ) → (k < get_or lo i 0) ⊎ (get_or hi i 0 ≤ k) → Less k (before hi i) → up_to e (before hi i) k ≡ up_to e (get_or hi i 0) k
      go k (inl a) (inl (b, t)) = ap (λ (x : Bool). x && e k) (t ∙ sym (lt-ltb k (get_or hi i 0) (omega (arith, one.some))))
      go k (inl a) (inr (b, t)) =
          ap (λ (x : Bool). x && e k) t ∙ sym (ap (λ (x : Bool). ltb k (get_or hi i 0) && x) (one.gap k b a) ∙ and_false (ltb k (get_or hi i 0)))
      go k (inr a) (inl (b, t)) = absurd (omega (arith, one.some, before_le lo hi i one))
      go k (inr a) (inr (b, t)) = ap (λ (x : Bool). x && e k) (t ∙ sym (le-ltb k (get_or hi i 0) a))

  -- all runs are painted
  pub paint_end : (lo hi : List ℕ) (n : ℕ) (m : List ℕ) → Runs e size lo hi n → Cells size (painted (up_to e (before hi n))) m → Cells size (painted e) m
  paint_end lo hi n m r = cells_same size (painted (up_to e (before hi n))) (painted e) m (λ k h. painted_same (up_to e (before hi n)) e k (go k h (decide k (before hi n))))
    where
      go : (k : ℕ) → k < size → Less k (before hi n) → up_to e (before hi n) k ≡ e k
      go k h (inl (a, t)) = ap (λ (b : Bool). b && e k) t
      go k h (inr (a, t)) = ap (λ (b : Bool). b && e k) t ∙ sym (r.last k a h)

  clear_is : (m : List ℕ) → Cells size (painted e) m → (k : ℕ) → k < size → not (e k) ≡ is_zero m k
  unfolding is_zero painted
  clear_is m w k l = go (e k) ∙ ap (λ (x : ℕ). eqb x 0) (sym (w.cell k l))
    where
      go : (b : Bool) → not b ≡ eqb (first_mark b false false) 0
      go true = refl
      go false = refl

  flip : (b t : Bool) → not b ≡ t → b ≡ not t
  flip true t h = ap not h
  flip false t h = ap not h

  -- the first clear cell is the first of which the test does not hold, the first marked one the first of which it does
  pub first_painted : (t : Bool) (m : List ℕ) (a b r : ℕ) → Cells size (painted e) m → b ≤ size → FirstOf t (is_zero m) a b r → FirstOf (not t) e a b r
  first_painted t m a b r w l f = record {
    low = f.low;
    high = f.high;
    none = λ k g h. flip (e k) (not t) (clear_is m w k (omega (arith, f.high)) ∙ f.none k g h);
    some = λ h. flip (e r) t (clear_is m w r (omega arith) ∙ f.some h);
  }
