-- `plan::walk_chain` meets its contract. The loop stands at record i of the chain: the tables hold the ranges and the np pilots before it,
-- and no ground holds there. The measure is how many records are left. Assumes nothing.
use Prim.Native.Nat.{◌-◌}
use Rattle.plan.specs.Walk.{Kept}
use Rattle.plan.proofs.walk_chain.Given as goal

abbrev pub invariant-loop-number : goal.invariant-loop-number
invariant-loop-number l = Kept l.d l.plan l.records l.i l.np l.reach l.hot l.pil l.rec

abbrev pub decreases-loop-number : goal.decreases-loop-number
decreases-loop-number l = l.records - l.i
