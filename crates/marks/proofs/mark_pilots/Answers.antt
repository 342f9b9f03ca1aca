-- `marks::mark_pilots` meets its contract. The loop has marked the pilots passed. Assumes nothing.
use Prim.Native.Nat.{◌<◌}
use native.Mathlib.Omega.{arith}
use lib.ListN.{length, get_or}
use Rattle.rules.specs.Roles.{continuous_mark}
use Rattle.roles.proofs.Eight.{one_none, one_more}
use Rattle.marks.proofs.Stretches.{stamp_start, stamp_more}
use Rattle.marks.proofs.mark_pilots.Goals as goal

pub loop-x-init : goal.loop-x-init
loop-x-init c = stamp_start _ _ c.args.m.now c.requires.0 (one_none c.args.pilots)

pub loop-x-preserved : goal.loop-x-preserved
loop-x-preserved c =
    let l = c.loop-x in
    let xs = c.args.pilots in
    let here : l.x-index < length xs = omega (arith, c.well_formed.1.0.1.0.1) in
    rw c.wide.ensures.0
    (stamp_more continuous_mark _ _ (get_or xs l.x-index 0) c.args.m.now l.m l.invariant (c.requires.1 l.x-index here) (λ k. one_more xs l.x-index k here))
