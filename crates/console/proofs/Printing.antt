-- Laws of a text that is printed byte by byte. Assumes nothing.
use Rattle.std.proofs.Common.{◌≡◌, ℕ, Bool, true, false, [], ◌∷◌, refl, subst, ◌+◌, ◌<◌, ◌≤◌, List, ◌++◌, length, drop, get_or, sym, ap, ap₂, ◌∙◌, drop_of_length-le, append-nil, append_assoc}
use Rattle.std.proofs.lemmas.List.{drop_more, get_or-drop, drop-drop}
use borrow.Author.Tests.{ne_eqb}
use native.Mathlib.Numerals.{unary_clauses}
use Rattle.std.specs.Prelude.{Option}
use Rattle.std.specs.Io.KnownBytes.{Appends}
use Rattle.std.proofs.KnownBytes.{Appends-trans}
use Rattle.text.specs.Text.{decimal}
use Rattle.console.specs.Printed.{piece, used, printed}

-- a # uses a number and prints as it
pub used_hash : (b : ℕ) → b ≡ 35 → 1 ≡ used b
unfolding used
used_hash b h = subst (λ (k : ℕ). 1 ≡ used k) (sym h) refl

pub piece_hash : (b n : ℕ) → b ≡ 35 → decimal n ≡ piece b n
unfolding piece
piece_hash b n h = subst (λ (k : ℕ). decimal n ≡ piece k n) (sym h) refl

-- any other byte uses none and prints as it is
pub used_other : (b : ℕ) → (b ≡ 35 → ⊥) → 0 ≡ used b
unfolding used
used_other b h = ap (λ (t : Bool). elim t as (λ _. ℕ) [ true ↦ 1 | false ↦ 0 ]) (sym (ne_eqb b 35 h))

pub piece_other : (b n : ℕ) → (b ≡ 35 → ⊥) → b ∷ [] ≡ piece b n
unfolding piece
piece_other b n h = ap (λ (t : Bool). elim t as (λ _. List ℕ) [ true ↦ decimal n | false ↦ b ∷ [] ]) (sym (ne_eqb b 35 h))

-- what is printed from a place on: that of the byte there, and then the rest
pub printed_from : (text numbers : List ℕ) (i next : ℕ) → i < length text
    → printed (drop i text) (drop next numbers) ≡ piece (get_or text i 0) (get_or numbers next 0) ++ printed (drop (i + 1) text) (drop (next + used (get_or text i 0)) numbers)
unfolding printed
printed_from text numbers i next h =
    let b = get_or text i 0 in
    ap (λ (l : List ℕ). printed l (drop next numbers)) (drop_more text i 0 h)
    ∙ ap₂ (λ (n : ℕ) (l : List ℕ). piece b n ++ printed (drop (i + 1) text) l) (simp unary_clauses at (get_or-drop next numbers 0 0)) (drop-drop (used b) next numbers)

-- where some bytes of the text were printed, and the next one is
pub printed_more : (text numbers done : List ℕ) (i next : ℕ) → i < length text
    → done ++ printed (drop i text) (drop next numbers) ≡ printed text numbers
    → (done ++ piece (get_or text i 0) (get_or numbers next 0)) ++ printed (drop (i + 1) text) (drop (next + used (get_or text i 0)) numbers) ≡ printed text numbers
printed_more text numbers done i next h e =
    append_assoc done _ _ ∙ ap (λ (l : List ℕ). done ++ l) (sym (printed_from text numbers i next h)) ∙ e

-- where all of it was printed
pub printed_all : (text numbers done : List ℕ) (i next : ℕ) → length text ≤ i
    → done ++ printed (drop i text) (drop next numbers) ≡ printed text numbers → done ≡ printed text numbers
unfolding printed
printed_all text numbers done i next h e =
    sym (append-nil done) ∙ ap (λ (l : List ℕ). done ++ printed l (drop next numbers)) (sym (drop_of_length-le text h)) ∙ e

-- the writer has taken what the first i bytes of the text print, which used up so many numbers
abbrev pub PrintedTo : Option (List ℕ) → Option (List ℕ) → List ℕ → List ℕ → ℕ → ℕ → Type 0
PrintedTo old new text numbers i next = (bs : List ℕ) × Appends old new bs × (bs ++ printed (drop i text) (drop next numbers) ≡ printed text numbers)

pub printed_to_more : (a b c : Option (List ℕ)) (text numbers : List ℕ) (i next n u : ℕ) → i < length text → n ≡ get_or numbers next 0
    → u ≡ used (get_or text i 0) → PrintedTo a b text numbers i next → Appends b c (piece (get_or text i 0) n) → PrintedTo a c text numbers (i + 1) (next + u)
printed_to_more a b c text numbers i next n u h e f d p =
    let q = subst (λ (k : ℕ). Appends b c (piece (get_or text i 0) k)) e p in
    let all = printed_more text numbers d.0 i next h d.2 in (
      d.0 ++ piece (get_or text i 0) (get_or numbers next 0),
      Appends-trans a b c _ _ d.1 q,
      subst (λ (k : ℕ). (d.0 ++ piece (get_or text i 0) (get_or numbers next 0)) ++ printed (drop (i + 1) text) (drop (next + k) numbers) ≡ printed text numbers) (sym f) all,
    )

pub printed_to_all : (a b : Option (List ℕ)) (text numbers : List ℕ) (i next : ℕ) → length text ≤ i → PrintedTo a b text numbers i next
    → Appends a b (printed text numbers)
printed_to_all a b text numbers i next h d = subst (Appends a b) (printed_all text numbers d.0 i next h d.2) d.1
