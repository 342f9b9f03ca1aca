-- `why::first_record` meets its contract. The loop stands at record i of the chain, and none before it passes. Assumes nothing.
use Prim.Native.Nat.{◌-◌, ◌/◌, ◌<◌}
use lib.ListN.{length}
use mathlib.Core.Bool.{Bool}
use Rattle.rules.specs.Plan.{Entry}
use Rattle.why.specs.Tests.{Decides}
use Rattle.why.proofs.Chains.{Stands}
use Rattle.why.proofs.first_record.Given as goal

abbrev pub invariant-loop-e : goal.invariant-loop-e
invariant-loop-e g l = record {
  here : l.i < length l.plan / 8;
  stands : (t : Entry → Bool) → Decides (goal.F-post g l.passes) t → Stands t l.plan l.i;
}

abbrev pub decreases-loop-e : goal.decreases-loop-e
decreases-loop-e g l = l.records - l.i
