-- Bytes stored in a copy: one list of bytes after another, and the copy as its first bytes. Assumes nothing.
use Prim.Native.Nat.{ℕ, suc, ◌+◌, ◌*◌, ◌/◌, ◌≤◌, ◌<◌}
use mathlib.Core.Path.{◌≡◌, refl, sym, ap, ap₂, ◌∙◌}
use mathlib.Core.List.{List, [], ◌∷◌, ◌++◌}
use native.Mathlib.Nat.{add-zero}
use native.Mathlib.Omega.{arith}
use lib.ListN.{length, set, take, drop, length-append}
use lib.Seq.{sets, length-sets, sets-eq, take_at, take-set-lt, length-take-le}
use Rattle.chains.specs.Last.{last_index}
use Rattle.copies.specs.Copy.{two_bytes, range_record, copy_with}

-- one list after another
pub sets_after : (l xs ys : List ℕ) (i n : ℕ) → n ≡ i + length xs → sets (sets l i xs) n ys ≡ sets l i (xs ++ ys)
sets_after l [] ys i n e = ap (λ (k : ℕ). sets l k ys) (e ∙ add-zero i)
sets_after l (x ∷ xs) ys i n e = sets_after (set l i x) xs ys (suc i) n (omega arith)

-- the first bytes, where the stores end
pub take-sets_end : (l vs : List ℕ) (i n : ℕ) → n ≡ i + length vs → n ≤ length l → take n (sets l i vs) ≡ take i l ++ vs
take-sets_end l vs i n e h =
    ap (take n) (sets-eq vs l i (omega arith))
    ∙ take_at (take i l ++ vs) (drop (i + length vs) l) n (length-append (take i l) vs ∙ ap (λ (x : ℕ). x + length vs) (length-take-le i l (omega arith)) ∙ sym e)

-- the first bytes, where the stores lie among them
pub take-sets_in : (vs l : List ℕ) (i n : ℕ) → i + length vs ≤ n → take n (sets l i vs) ≡ sets (take n l) i vs
take-sets_in [] l i n h = refl
take-sets_in (x ∷ vs) l i n h = take-sets_in vs (set l i x) (suc i) n (omega arith) ∙ ap (λ (k : List ℕ). sets k (suc i) vs) (take-set-lt n l i x (omega arith))

-- the copy: the plan, the new next index of its last chain record, and the new record
pub copied_bytes : (l s : List ℕ) (a b : ℕ) → length s + 8 ≤ length l → 8 * last_index s + 7 < length s
    → take (length s + 8) (sets (sets (sets l 0 s) (8 * last_index s + 2) (two_bytes (length s / 8))) (length s) (range_record a b)) ≡ copy_with s a b
unfolding copy_with
copied_bytes l s a b h g =
    take-sets_end (sets (sets l 0 s) (8 * last_index s + 2) (two_bytes (length s / 8))) (range_record a b) (length s) (length s + 8) (eight a b) (rw (length-sets, length-sets) h)
    ∙ ap (λ (x : List ℕ). x ++ range_record a b)
    (take-sets_in (two_bytes (length s / 8)) (sets l 0 s) (8 * last_index s + 2) (length s) (omega arith)
    ∙ ap (λ (x : List ℕ). sets x (8 * last_index s + 2) (two_bytes (length s / 8))) (take-sets_end l s 0 (length s) (omega arith) (omega arith)))
  where
    eight : (a b : ℕ) → length s + 8 ≡ length s + length (range_record a b)
    eight a b = unfold range_record in refl

-- ---- as the code stores them

pub range_stored : (l l₁ l₂ l₃ l₄ : List ℕ) (at a b : ℕ) → l₁ ≡ sets l at (two_bytes 512) → l₂ ≡ sets l₁ (at + 2) (two_bytes 0) → l₃ ≡ sets l₂ (at + 4) (two_bytes a) → l₄ ≡ sets l₃ (at + 6) (two_bytes b)
    → l₄ ≡ sets l at (range_record a b)
unfolding range_record
range_stored l l₁ l₂ l₃ l₄ at a b e f g h =
    h
    ∙ ap (λ (x : List ℕ). sets x (at + 6) (two_bytes b))
    (g ∙ ap (λ (x : List ℕ). sets x (at + 4) (two_bytes a)) (f ∙ ap (λ (x : List ℕ). sets x (at + 2) (two_bytes 0)) e ∙ sets_after l (two_bytes 512) (two_bytes 0) at (at + 2) refl) ∙ sets_after l (two_bytes 512 ++ two_bytes 0) (two_bytes a) at (at + 4) refl)
    ∙ sets_after l ((two_bytes 512 ++ two_bytes 0) ++ two_bytes a) (two_bytes b) at (at + 6) refl

pub copy_stored : (l l₁ l₂ l₃ s : List ℕ) (i a b : ℕ) → l₁ ≡ sets l 0 s → i ≡ last_index s → l₂ ≡ sets l₁ (8 * i + 2) (two_bytes (length s / 8)) → l₃ ≡ sets l₂ (length s) (range_record a b)
    → length s + 8 ≤ length l → 8 * last_index s + 7 < length s → take (length s + 8) l₃ ≡ copy_with s a b
copy_stored l l₁ l₂ l₃ s i a b e is f g h w =
    ap (take (length s + 8))
    (g ∙ ap (λ (x : List ℕ). sets x (length s) (range_record a b)) (f ∙ ap₂ (λ (x : List ℕ) (k : ℕ). sets x (8 * k + 2) (two_bytes (length s / 8))) e is))
    ∙ copied_bytes l s a b h w
