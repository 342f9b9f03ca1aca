-- `carriers::zeros` meets its contract. Assumes nothing.
use Prim.Native.Nat.{ℕ, ◌+◌, ◌-◌, ◌<◌}
use mathlib.Core.Path.{◌≡◌, refl}
use mathlib.Core.List.{List}
use native.Mathlib.Omega.{arith}
use lib.Dec.{eqb}
use lib.ListN.{get_or, take, drop}
use Rattle.std.proofs.lemmas.List.{get_or-take, get_or-drop, length-take}
use Rattle.counting.specs.Search.{bit, sum, count, is_zero}
use Rattle.counting.proofs.Laws.{count_step}
use Rattle.carriers.proofs.zeros.Goals as goal

-- place i of the 8 from k on
here : (mark : List ℕ) (k i r : ℕ) → i < k + 8 - k → r ≡ bit (eqb (get_or (take (k + 8 - k) (drop k mark)) i 0) 0) → r ≡ bit (is_zero mark (k + i))
unfolding is_zero
here mark k i r h e = rw (get_or-take, get_or-drop) at e

pub loop-x-init : goal.loop-x-init
unfolding count sum
loop-x-init c = (omega arith, refl)

pub loop-x-preserved : goal.loop-x-preserved
loop-x-preserved c =
    let a = c.args in
    let l = c.loop-x in
    let one = here a.mark.now a.k l.x-index _ (omega (arith, length-take {A = ℕ})) c.one_if_zero-n.ensures.0 in
    (omega (arith, c.one_if_zero-n.ensures.1), omega (arith, count_step (λ j. is_zero a.mark.now (a.k + j)) l.x-index, one, l.invariant.1))
