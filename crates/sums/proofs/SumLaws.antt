-- The checksum of the cells up to a place, and one cell more. Assumes nothing.
use Prim.Native.Nat.{ℕ, suc, ◌<◌}
use mathlib.Core.Path.{◌≡◌, refl, sym, ap, ◌∙◌}
use mathlib.Core.List.{List, [], ◌∷◌, ◌++◌}
use lib.ListN.{length, get_or, take}
use lib.Seq.{take-suc}
use Rattle.sums.specs.Sums.{mix, mix_all}

mix_snoc : (sum : ℕ) (xs : List ℕ) (x : ℕ) → mix_all sum (xs ++ (x ∷ [])) ≡ mix (mix_all sum xs) x
mix_snoc sum [] x = refl
mix_snoc sum (y ∷ ys) x = mix_snoc (mix sum y) ys x

-- one cell more
pub mix_next : (sum : ℕ) (xs : List ℕ) (i : ℕ) → i < length xs → mix (mix_all sum (take i xs)) (get_or xs i 0) ≡ mix_all sum (take (suc i) xs)
mix_next sum xs i h = sym (ap (mix_all sum) (take-suc xs i 0 h) ∙ mix_snoc sum (take i xs) (get_or xs i 0))
