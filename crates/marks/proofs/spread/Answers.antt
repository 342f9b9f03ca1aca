-- `marks::spread` meets its contract: the cells of the stretch are those filled. Assumes nothing.
use Prim.Native.Nat.{ℕ, ◌-◌, ◌≤◌, ◌<◌}
use mathlib.Core.Path.{◌≡◌}
use mathlib.Core.Logic.{◌⊎◌, inl, inr}
use mathlib.Core.List.{List}
use native.Mathlib.Omega.{arith}
use lib.ListN.{length, get_or, replicate}
use borrow.Author.Rules.{rules}
use borrow.Rule.Slice.PartMut.{put_mid}
use Rattle.std.proofs.lemmas.List.{places}
use Rattle.rules.specs.Fits.{capacity}
use Rattle.marks.specs.Stages.{between, Stamped}
use Rattle.marks.proofs.Stretches.{between_in, between_out}
use Rattle.marks.proofs.spread.Goals as goal

filled : (v a b n : ℕ) (m y : List ℕ) → length m ≡ capacity → a ≤ b → b ≤ capacity → n ≡ b - a → y ≡ replicate n v → Stamped v (between a b) m (put_mid a (b - a) m y)
filled v a b n m y l s w i e = rw (e, i) (record {
  long = search (rules, places);
  here = λ k h. let i : (a ≤ k) × (k < b) = between_in a b k h in grind (arith, places);
  other = λ k h. outside k (between_out a b k h);
})
  where
    outside : (k : ℕ) → (k < a) ⊎ (b ≤ k) → get_or (put_mid a (b - a) m (replicate (b - a) v)) k 0 ≡ get_or m k 0
    outside k (inl h) = search (rules, places)
    outside k (inr h) = search (rules, places)

pub returns : goal.returns
returns c = filled _ _ _ _ _ _ c.requires.0 (omega arith) (omega arith) (search (rules, places)) (c.fill.ensures.after (λ y e. e))
