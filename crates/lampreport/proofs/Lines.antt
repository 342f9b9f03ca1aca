-- Laws of a line as it is put together. Assumes nothing.
use Prim.Native.Nat.{ℕ, ◌+◌, ◌≤◌}
use mathlib.Core.Path.{◌≡◌, refl, sym, ap, ◌∙◌}
use mathlib.Core.List.{List, [], ◌∷◌, ◌++◌, append-nil, append_assoc}
use native.Mathlib.Numerals.{add-one}
use native.Mathlib.Omega.{arith}
use lib.Dec.{eqb}
use lib.ListN.{length, get_or, take}
use lib.Seq.{length-take-le}
use Rattle.counting.specs.Search.{keep}
use Rattle.text.specs.Text.{decimal}
use Rattle.lampreport.specs.LampLine.{all_lit, dark_word, spaced, dark_pilots, dark_line, lamp_line}

-- ---- numbers, each after a space

pub spaced_one : (base : List ℕ) (k : ℕ) → (base ++ 32 ∷ []) ++ decimal k ≡ base ++ spaced (k ∷ [])
unfolding spaced
spaced_one base k = append_assoc base (32 ∷ []) (decimal k) ∙ ap (λ (l : List ℕ). base ++ 32 ∷ l) (sym (append-nil (decimal k)))

pub spaced_none : (base : List ℕ) → base ≡ base ++ spaced []
unfolding spaced
spaced_none base = sym (append-nil base)

spaced_append : (xs ys : List ℕ) → spaced (xs ++ ys) ≡ spaced xs ++ spaced ys
unfolding spaced
spaced_append [] ys = refl
spaced_append (x ∷ xs) ys = ap (λ (l : List ℕ). 32 ∷ l) (ap (λ (l : List ℕ). decimal x ++ l) (spaced_append xs ys) ∙ sym (append_assoc (decimal x) (spaced xs) (spaced ys)))

-- ---- the dark pilots

module _ (ks lights base : List ℕ) where
  pub dark_none : (line : List ℕ) → line ≡ base → line ≡ base ++ spaced (dark_pilots ks lights 0)
  unfolding dark_pilots
  dark_none line e = e ∙ spaced_none base

  pub dark_next : (n : ℕ) (line next : List ℕ) → line ≡ base ++ spaced (dark_pilots ks lights n)
      → next ≡ line ++ spaced (keep (eqb (get_or lights n 0) 0) (get_or ks n 0) []) → next ≡ base ++ spaced (dark_pilots ks lights (n + 1))
  unfolding dark_pilots
  dark_next n line next e h =
      let more : List ℕ = keep (eqb (get_or lights n 0) 0) (get_or ks n 0) [] in
      rw (add-one n)
      (h ∙ ap (λ (l : List ℕ). l ++ spaced more) e ∙ append_assoc base (spaced (dark_pilots ks lights n)) (spaced more)
      ∙ ap (λ (l : List ℕ). base ++ l) (sym (spaced_append (dark_pilots ks lights n) more)))

-- ---- the whole line

module _ (ks lights : List ℕ) (n : ℕ) (text : List ℕ) (end : ℕ) (e : take end text ≡ dark_word ++ spaced (dark_pilots ks lights n)) (room : end ≤ length text) where
  -- no byte behind the word: no pilot is dark
  no_more : end ≡ 4 → (ds : List ℕ) → take end text ≡ dark_word ++ spaced ds → dark_line ds ≡ all_lit
  unfolding spaced dark_line
  no_more h [] f = refl
  no_more h (d ∷ ds) f = absurd (omega (arith, ap length f, length-take-le end text room))

  pub line_lit : end ≡ 4 → (line : List ℕ) → line ≡ [] ++ all_lit → line ≡ lamp_line ks lights n
  unfolding lamp_line
  line_lit h line f = f ∙ sym (no_more h (dark_pilots ks lights n) e)

  some_dark : (end ≡ 4 → ⊥) → (ds : List ℕ) → take end text ≡ dark_word ++ spaced ds → dark_word ++ spaced ds ++ (10 ∷ []) ≡ dark_line ds
  unfolding spaced dark_line
  some_dark h [] f = absurd (h (omega (arith, ap length f, length-take-le end text room)))
  some_dark h (d ∷ ds) f = refl

  pub line_dark : (end ≡ 4 → ⊥) → (line : List ℕ) → line ≡ take end text ++ 10 ∷ [] → line ≡ lamp_line ks lights n
  unfolding lamp_line
  line_dark h line f =
      f ∙ ap (λ (l : List ℕ). l ++ 10 ∷ []) e ∙ append_assoc dark_word (spaced (dark_pilots ks lights n)) (10 ∷ []) ∙ some_dark h (dark_pilots ks lights n) e
