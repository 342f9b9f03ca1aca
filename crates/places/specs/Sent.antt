-- The cells that a list of steps sends from a store of places. Assumes nothing.
use Rattle.std.specs.Prelude.{ℕ, List, [], ◌∷◌}
use Rattle.rules.specs.Places.{oldest, moved}

-- of n cells with the delays d, from the store s, by steps that are given the symbols xs
unfoldable pub places_sent : (ℕ → ℕ) → ℕ → List ℕ → List (List ℕ) → List (List ℕ)
places_sent d n s [] = []
places_sent d n s (x ∷ xs) = oldest d n s x ∷ places_sent d n (moved d n s x) xs
