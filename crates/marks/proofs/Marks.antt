-- What crates above take from the painted marks and from grounds 6 to 8. Assumes nothing.
use Prim.Native.Nat.{ℕ, ◌<◌}
use mathlib.Core.Path.{◌≡◌, refl, sym, ap, ◌∙◌}
use mathlib.Core.Bool.{Bool, true, false, not, ◌&&◌}
use mathlib.Core.List.{List, []}
use native.Mathlib.Omega.{arith}
use lib.Dec.{eqb}
use lib.ListN.{get_or}
use borrow.Author.Tests.{lt-ltb}
use Rattle.rules.specs.declared.Device.{Device}
use Rattle.std.specs.Prelude.{Ok, Option, Some, None}
use Rattle.rules.specs.Plan.{Plan}
use Rattle.rules.specs.Bands.{excluded, active}
use Rattle.rules.specs.Roles.{in_plc, continuous, ranked, first_mark}
use Rattle.rules.specs.Grounds.{◌else◌, ground?, outside, around_plc, pilot_clash}
use Rattle.roles.proofs.Testing.{mark_is}
use Rattle.marks.specs.Marked.{Marked, grounds6to8}

-- a cell is 0 exactly if its subcarrier has a rank
pub zero_ranked : (d : Device) (p : Plan) (m : List ℕ) → Marked d p m → (k : ℕ) → k < d.subcarriers → eqb (get_or m k 0) 0 ≡ ranked d p k
unfolding ranked active
zero_ranked d p m w k l =
    ap (λ (x : ℕ). eqb x 0) (w.cell k l ∙ mark_is d p k) ∙ go (excluded p k) (in_plc d p k) (continuous d p k)
    ∙ sym (ap (λ (b : Bool). ((b && not (excluded p k)) && not (in_plc d p k)) && not (continuous d p k)) (lt-ltb k d.subcarriers l))
  where
    go : (a b c : Bool) → eqb (first_mark a b c) 0 ≡ (((true && not a) && not b) && not c)
    go true b c = refl
    go false true c = refl
    go false false true = refl
    go false false false = refl

-- the finding, from the place that each of the three has
pub found_is : (d : Device) (p : Plan) (a b c : Option ℕ) → outside d p ≡ a → around_plc d p ≡ b → pilot_clash d p [] p.pilots ≡ c → (ground? 6 a else ground? 7 b else ground? 8 c) ≡ grounds6to8 d p
unfolding grounds6to8
found_is d p a b c x y z = sym (λ i. ground? 6 (x i) else ground? 7 (y i) else ground? 8 (z i))

-- where none of grounds 6 to 8 holds, 6 and 7 hold nowhere
pub early_fine : (d : Device) (p : Plan) → Ok tt ≡ grounds6to8 d p → (None ≡ outside d p) × (None ≡ around_plc d p)
unfolding grounds6to8
early_fine d p = go (outside d p) (around_plc d p) (pilot_clash d p [] p.pilots)
  where
    go : (a b c : Option ℕ) → Ok tt ≡ (ground? 6 a else ground? 7 b else ground? 8 c) → (None ≡ a) × (None ≡ b)
    go None None c h = (refl, refl)
    go None (Some k) c h = absurd (let z : ◌≡◌ {A = ℕ} 0 1 = cc in omega arith)
    go (Some k) b c h = absurd (let z : ◌≡◌ {A = ℕ} 0 1 = cc in omega arith)
