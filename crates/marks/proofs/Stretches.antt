-- What loops over stretches of the array keep, and how a store changes what its cells follow. Assumes nothing.
use Prim.Native.Nat.{ℕ, ◌+◌, ◌≤◌, ◌<◌}
use mathlib.Core.Path.{◌≡◌, refl, sym, ap, ap₂, ◌∙◌}
use mathlib.Core.Logic.{◌⊎◌, inl, inr}
use mathlib.Core.Bool.{Bool, true, false, not, ◌&&◌, ◌||◌, beq, true≢false}
use mathlib.Core.List.{List}
use native.Mathlib.Omega.{arith}
use lib.Dec.{leb, ltb, eqb}
use lib.ListN.{length, get_or, set, length-set}
use lib.Seq.{get_or-set_same, get_or-set_other}
use borrow.Author.Tests.{lt-ltb, le-ltb, le-leb, lt-leb, eqb-false}
use Rattle.counting.proofs.Bools.{and_false, or_false, or_true, neither, Less, decide, Same, decide_eq, decide_bool}
use Rattle.rules.specs.Fits.{capacity}
use Rattle.marks.specs.Marked.{Cells}
use Rattle.marks.specs.Stages.{between, Stamped}

-- the stretch a to b - 1: none of it, one more, and what a number in it and one outside it are
pub between_none : (a k : ℕ) → between a a k ≡ false
between_none a k = go (decide k a)
  where
    go : Less k a → between a a k ≡ false
    go (inl (h, _)) = ap (λ (x : Bool). x && ltb k a) (lt-leb a k h)
    go (inr (h, e)) = ap (λ (x : Bool). leb a k && x) e ∙ and_false (leb a k)

pub between_more : (a b k : ℕ) → a ≤ b → between a (b + 1) k ≡ (between a b k || eqb k b)
between_more a b k l = go (decide k b) (decide_eq k b)
  where
    go : Less k b → Same k b → between a (b + 1) k ≡ (between a b k || eqb k b)
    go (inl (h, e)) (inl (same, _)) = absurd (omega arith)
    go (inr (h, e)) (inl (same, f)) = ap₂ (λ (x y : Bool). x && y) (le-leb a k (omega arith)) (lt-ltb k (b + 1) (omega arith)) ∙ sym (ap (λ (x : Bool). between a b k || x) f ∙ or_true (between a b k))
    go (inl (h, e)) (inr (differ, f)) = ap (λ (x : Bool). leb a k && x) (lt-ltb k (b + 1) (omega arith) ∙ sym e) ∙ sym (ap (λ (x : Bool). between a b k || x) f ∙ or_false (between a b k))
    go (inr (h, e)) (inr (differ, f)) = ap (λ (x : Bool). leb a k && x) (le-ltb k (b + 1) (above h differ) ∙ sym e) ∙ sym (ap (λ (x : Bool). between a b k || x) f ∙ or_false (between a b k))
      where
        above : b ≤ k → (k ≡ b → ⊥) → b + 1 ≤ k
        above h differ = omega arith

pub between_in : (a b k : ℕ) → between a b k ≡ true → (a ≤ k) × (k < b)
between_in a b k e = go (decide k a) (decide k b)
  where
    go : Less k a → Less k b → (a ≤ k) × (k < b)
    go (inl (h, _)) _ = absurd (true≢false (sym e ∙ ap (λ (x : Bool). x && ltb k b) (lt-leb a k h)))
    go (inr (h, _)) (inl (g, _)) = (h, g)
    go (inr (h, _)) (inr (g, f)) = absurd (true≢false (sym e ∙ ap (λ (x : Bool). leb a k && x) f ∙ and_false (leb a k)))

pub between_out : (a b k : ℕ) → between a b k ≡ false → (k < a) ⊎ (b ≤ k)
between_out a b k e = go (decide k a) (decide k b)
  where
    go : Less k a → Less k b → (k < a) ⊎ (b ≤ k)
    go (inl (h, _)) _ = inl h
    go (inr (h, _)) (inr (g, _)) = inr g
    go (inr (h, _)) (inl (g, f)) = absurd (true≢false (sym (ap₂ (λ (x y : Bool). x && y) (le-leb a k h) f) ∙ e))

-- a loop that stores v in cells here and there: no cell yet, and one more, at a
pub stamp_start : (v : ℕ) (t : ℕ → Bool) (m : List ℕ) → length m ≡ capacity → ((k : ℕ) → t k ≡ false) → Stamped v t m m
stamp_start v t m s none = record { long = s; here = λ k e. absurd (true≢false (sym e ∙ none k)); other = λ k e. refl }

pub stamp_more : (v : ℕ) (t u : ℕ → Bool) (a : ℕ) (l m : List ℕ) → Stamped v t l m → a < capacity → ((k : ℕ) → u k ≡ (t k || eqb k a)) → Stamped v u l (set m a v)
stamp_more v t u a l m w h more = record {
  long = length-set m a v ∙ w.long;
  here = λ k e. there k (sym (more k) ∙ e) (decide_eq k a);
  other = λ k e.
      let n = neither (t k) (eqb k a) (sym (more k) ∙ e) in
      get_or-set_other m a k v 0 (eqb-false k a n.1) ∙ w.other k n.0;
}
  where
    there : (k : ℕ) → (t k || eqb k a) ≡ true → Same k a → get_or (set m a v) k 0 ≡ v
    there k e (inl (same, _)) = ap (λ (x : ℕ). get_or (set m a v) x 0) same ∙ get_or-set_same m a v 0 (omega (arith, w.long))
    there k e (inr (differ, f)) = get_or-set_other m a k v 0 differ ∙ w.here k (sym (ap (λ (b : Bool). t k || b) f ∙ or_false (t k)) ∙ e)

-- two tests that agree, and two that do not
pub beq_true : (a b : Bool) → beq a b ≡ true → a ≡ b
beq_true true true e = refl
beq_true true false e = absurd (true≢false (sym e))
beq_true false true e = absurd (true≢false (sym e))
beq_true false false e = refl

pub beq_false : (a b : Bool) → beq a b ≡ false → a ≡ not b
beq_false true true e = absurd (true≢false e)
beq_false true false e = refl
beq_false false true e = refl
beq_false false false e = absurd (true≢false e)

-- a loop that looks for the first: one more passed
pub look_more : (t : Bool) (e : ℕ → Bool) (a b : ℕ) → ((k : ℕ) → a ≤ k → k < b → e k ≡ not t) → e b ≡ not t → (k : ℕ) → a ≤ k → k < b + 1 → e k ≡ not t
look_more t e a b h w k g l = go (decide k b)
  where
    go : Less k b → e k ≡ not t
    go (inl (m, _)) = h k g m
    go (inr (m, _)) = let same : k ≡ b = omega arith in ap e same ∙ w

pub cells_same : (size : ℕ) (f g : ℕ → ℕ) (m : List ℕ) → ((k : ℕ) → k < size → f k ≡ g k) → Cells size f m → Cells size g m
cells_same size f g m h w = record { long = w.long; cell = λ k l. w.cell k l ∙ h k l }

-- cells are stored: the rule g is v where the test holds, and f elsewhere
pub cells_stamp : (size : ℕ) (f g : ℕ → ℕ) (v : ℕ) (t : ℕ → Bool) (l m : List ℕ) → Cells size f l → Stamped v t l m
    → ((k : ℕ) → k < size → t k ≡ true → v ≡ g k) → ((k : ℕ) → k < size → t k ≡ false → f k ≡ g k) → Cells size g m
cells_stamp size f g v t l m w s here other = record { long = s.long; cell = λ k h. go k h (decide_bool (t k)) }
  where
    go : (k : ℕ) → k < size → (t k ≡ true) ⊎ (t k ≡ false) → get_or m k 0 ≡ g k
    go k h (inl e) = s.here k e ∙ here k h e
    go k h (inr e) = s.other k e ∙ w.cell k h ∙ other k h e

-- a stretch is stored
pub cells_spread : (size : ℕ) (f g : ℕ → ℕ) (v a b : ℕ) (l m : List ℕ) → Cells size f l → Stamped v (between a b) l m
    → ((k : ℕ) → k < size → a ≤ k → k < b → v ≡ g k) → ((k : ℕ) → k < size → (k < a) ⊎ (b ≤ k) → f k ≡ g k) → Cells size g m
cells_spread size f g v a b l m w s inside other =
    cells_stamp size f g v (between a b) l m w s (λ k h e. let i = between_in a b k e in inside k h i.0 i.1) (λ k h e. other k h (between_out a b k e))

-- one cell is stored
pub cells_set : (size : ℕ) (f g : ℕ → ℕ) (a v : ℕ) (m : List ℕ) → size ≤ capacity → Cells size f m → a < size
    → v ≡ g a → ((k : ℕ) → (k ≡ a → ⊥) → f k ≡ g k) → Cells size g (set m a v)
cells_set size f g a v m few w l here other = record { long = length-set m a v ∙ w.long; cell = λ k h. go k h (decide_eq k a) }
  where
    go : (k : ℕ) → k < size → Same k a → get_or (set m a v) k 0 ≡ g k
    go k h (inl (e, _)) = ap (λ (x : ℕ). get_or (set m a v) x 0) e ∙ get_or-set_same m a v 0 (omega (arith, w.long)) ∙ here ∙ sym (ap g e)
    go k h (inr (e, _)) = get_or-set_other m a k v 0 e ∙ w.cell k h ∙ other k e
