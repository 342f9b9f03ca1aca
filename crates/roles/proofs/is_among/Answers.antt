-- `roles::is_among` meets its contract: `any` is `one_of`, by recursion. Assumes nothing.
use borrow.Author.Rules.{rules}
use mathlib.Core.Path.{◌≡◌, refl, ap, ◌∙◌}
use mathlib.Core.Bool.{◌||◌}
use mathlib.Core.List.{List, [], ◌∷◌}
use Prim.Native.Nat.{ℕ}
use lib.Dec.{eqb}
use Rattle.std.proofs.Common.{tests}
use Rattle.std.specs.List.{list_any}
use Rattle.std.proofs.lemmas.Iterator.{YieldsList-from_slice}
use Rattle.std.proofs.lemmas.Iterator.Search.{any_from_yields_List}
use Rattle.rules.specs.Roles.{one_of}
use Rattle.roles.proofs.is_among.Goals as goal

any_is : (k : ℕ) (xs : List ℕ) → list_any (eqb k) xs ≡ one_of k xs
unfolding one_of
any_is k [] = refl
any_is k (x ∷ xs) = ap (λ b. eqb k x || b) (any_is k xs)

pub returns : goal.returns
returns c =
    any_from_yields_List (eqb c.args.k) _ _ _ c.any.ensures.ran (YieldsList-from_slice c.args.pilots cc) (λ x b q h. search (rules, tests)) ∙ any_is c.args.k c.args.pilots
