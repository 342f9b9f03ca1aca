-- Lists of entries, looked at by tests that do not ask for the next index. Assumes nothing.
use mathlib.Core.Path.{◌≡◌, refl, sym, ap, ap₂, ◌∙◌}
use mathlib.Core.Bool.{Bool, true, false, ◌||◌, or_assoc}
use mathlib.Core.List.{List, [], ◌∷◌, ◌++◌, map}
use Rattle.rules.specs.Plan.{Entry, only}
use Rattle.rules.specs.Bands.{any}
use Rattle.copylaws.specs.Entries.{unlinked}

-- the test says the same of an entry without its next index
abbrev pub Blind : (Entry → Bool) → Type 0
Blind t = (e : Entry) → t (unlinked e) ≡ t e

pub only_unlinked : (t : Entry → Bool) → Blind t → (es : List Entry) → map unlinked (only t es) ≡ only t (map unlinked es)
unfolding only
only_unlinked t h [] = refl
only_unlinked t h (e ∷ es) = go (only_unlinked t h es) (t e) ∙ sym (ap (λ (b : Bool). elim b [ true ↦ unlinked e ∷ only t (map unlinked es) | false ↦ only t (map unlinked es) ]) (h e))
  where
    go : map unlinked (only t es) ≡ only t (map unlinked es) → (b : Bool) → map unlinked (elim b [ true ↦ e ∷ only t es | false ↦ only t es ]) ≡ elim b [ true ↦ unlinked e ∷ only t (map unlinked es) | false ↦ only t (map unlinked es) ]
    go ih true = ap (λ (x : List Entry). unlinked e ∷ x) ih
    go ih false = ih

pub only_append : (t : Entry → Bool) (xs ys : List Entry) → only t (xs ++ ys) ≡ only t xs ++ only t ys
unfolding only
only_append t [] ys = refl
only_append t (e ∷ es) ys = go (only_append t es ys) (t e)
  where
    go : only t (es ++ ys) ≡ only t es ++ only t ys → (b : Bool) → elim b [ true ↦ e ∷ only t (es ++ ys) | false ↦ only t (es ++ ys) ] ≡ elim b [ true ↦ e ∷ only t es | false ↦ only t es ] ++ only t ys
    go ih true = ap (λ (x : List Entry). e ∷ x) ih
    go ih false = ih

pub any_unlinked : (t : Entry → Bool) → Blind t → (es : List Entry) → any t (map unlinked es) ≡ any t es
unfolding any
any_unlinked t h [] = refl
any_unlinked t h (e ∷ es) = ap₂ (λ (x y : Bool). x || y) (h e) (any_unlinked t h es)

pub any_append : (t : Entry → Bool) (xs ys : List Entry) → any t (xs ++ ys) ≡ (any t xs || any t ys)
unfolding any
any_append t [] ys = refl
any_append t (e ∷ es) ys = ap (λ (x : Bool). t e || x) (any_append t es ys) ∙ sym (or_assoc (t e) (any t es) (any t ys))
