-- The first of some entries that passes a test, and that on a chain it is the first. Assumes nothing.
use Prim.Native.Nat.{ℕ, zero, suc}
use mathlib.Core.Path.{◌≡◌, refl, sym, ap, ◌∙◌}
use mathlib.Core.Bool.{Bool, true, false, ◌&&◌, ◌||◌}
use mathlib.Core.List.{List, [], ◌∷◌}
use Rattle.counting.proofs.Bools.{by_test, conflict}
use Rattle.rules.specs.Plan.{Entry, entry, leads, chain_from, only}
use Rattle.rules.specs.Bands.{any}
use Rattle.chains.proofs.Steps.{chain_ends, chain_on}
use Rattle.reasons.specs.Reasons.{first_index}
use Rattle.reasons.specs.Claims.{FirstOn}

module _ (t : Entry → Bool) where
  -- the first of all, or one after it
  pub first_here : (e : Entry) (es : List Entry) → t e ≡ true → first_index t (e ∷ es) ≡ e.index
  unfolding first_index
  first_here e es h = λ j. elim (h j) [ true ↦ e.index | false ↦ first_index t es ]

  pub first_later : (e : Entry) (es : List Entry) → t e ≡ false → first_index t (e ∷ es) ≡ first_index t es
  unfolding first_index
  first_later e es h = λ j. elim (h j) [ true ↦ e.index | false ↦ first_index t es ]

  -- none of no entries
  pub first_none : first_index t [] ≡ 0
  unfolding first_index
  first_none = refl

  module _ (s : List ℕ) where
    pub on_here : (i : ℕ) (es : List Entry) → t (entry s i) ≡ true → FirstOn s t (entry s i ∷ es) i
    unfolding any
    on_here i es h = record { earlier = []; later = es; stands = refl; passes = h; none = refl }

    on_later : (e : Entry) (es : List Entry) (i : ℕ) → t e ≡ false → FirstOn s t es i → FirstOn s t (e ∷ es) i
    unfolding any
    on_later e es i h f = record {
      earlier = e ∷ f.earlier;
      later = f.later;
      stands = ap (λ (x : List Entry). e ∷ x) f.stands;
      passes = f.passes;
      none = ap (λ (b : Bool). b || any t f.earlier) h ∙ f.none;
    }

    any_later : (e : Entry) (es : List Entry) → t e ≡ false → any t (e ∷ es) ≡ true → any t es ≡ true
    unfolding any
    any_later e es h f = sym (ap (λ (b : Bool). b || any t es) h) ∙ f

    none_passes : any t [] ≡ true → ⊥
    unfolding any
    none_passes h = conflict false h refl

    -- where one of a chain passes, that index is the first's
    pub first_from : (r n i : ℕ) → any t (chain_from s r n i) ≡ true → FirstOn s t (chain_from s r n i) (first_index t (chain_from s r n i))
    unfolding chain_from entry
    first_from r zero i h = absurd (none_passes h)
    first_from r (suc n) i h =
        by_test (leads r i (entry s i).next)
        (λ e. rw (chain_on s r n i e) (at (chain_from s r n (entry s i).next) (sym (ap (any t) (chain_on s r n i e)) ∙ h) (first_from r n (entry s i).next)))
        (λ e. rw (chain_ends s r n i e) (at [] (sym (ap (any t) (chain_ends s r n i e)) ∙ h) (λ g. absurd (none_passes g))))
      where
        at : (es : List Entry) → any t (entry s i ∷ es) ≡ true → (any t es ≡ true → FirstOn s t es (first_index t es)) → FirstOn s t (entry s i ∷ es) (first_index t (entry s i ∷ es))
        at es g rest =
            by_test (t (entry s i))
            (λ e. rw (first_here (entry s i) es e) (on_here i es e))
            (λ e. rw (first_later (entry s i) es e) (on_later (entry s i) es (first_index t es) e (rest (any_later (entry s i) es e g))))

-- among the entries of one kind one passes exactly if among all one is of the kind and passes
pub any_only : (t u : Entry → Bool) (es : List Entry) → any u (only t es) ≡ any (λ e. t e && u e) es
unfolding any only
any_only t u [] = refl
any_only t u (e ∷ es) = go (any_only t u es) (t e)
  where
    go : any u (only t es) ≡ any (λ e. t e && u e) es → (b : Bool) → any u (elim b [ true ↦ e ∷ only t es | false ↦ only t es ]) ≡ ((b && u e) || any (λ e. t e && u e) es)
    go ih true = ap (λ (x : Bool). u e || x) ih
    go ih false = ih
