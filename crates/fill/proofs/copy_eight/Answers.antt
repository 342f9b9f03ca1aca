-- `fill::copy_eight` meets its contract. The first loop has read the numbers below i, the second has stored those below j. Assumes nothing.
use Prim.Native.Nat.{ℕ}
use mathlib.Core.Path.{refl, ap, ◌∙◌}
use mathlib.Core.List.{List}
use native.Mathlib.Omega.{arith}
use lib.ListN.{get_or}
use Rattle.counting.proofs.Lists.{get_d_tabulate}
use Rattle.fill.proofs.Blocks.{stored_start, stored_next, stored_all, stored_whole}
use Rattle.fill.proofs.copy_eight.Invariants.{from}
use Rattle.fill.proofs.copy_eight.Goals as goal

pub loop-i-init : goal.loop-i-init
loop-i-init c = stored_start _ _ _ _

pub loop-i-preserved : goal.loop-i-preserved
loop-i-preserved c =
    let l = c.loop-i in
    stored_next _ _ _ _ l.i l.eight l.invariant l.i _ _ (omega arith) (omega arith) refl refl

pub loop-j-init : goal.loop-j-init
loop-j-init c = stored_start _ _ _ _

pub loop-j-preserved : goal.loop-j-preserved
loop-j-preserved c =
    let a = c.args in
    let r = c.loop-i in
    let l = c.loop-j in
    let f = from a.x.now a.a in
    let read = ap (λ (q : List ℕ). get_or q l.j 0) (stored_whole _ f 8 r.i r.eight r.invariant (omega arith) refl) ∙ get_d_tabulate f 8 0 l.j (omega arith) in
    stored_next _ _ f _ l.j l.y l.invariant _ _ _ (omega arith) refl read refl

pub returns : goal.returns
returns c =
    let l = c.loop-j in
    stored_all _ _ _ _ l.j l.y l.invariant (omega arith)
