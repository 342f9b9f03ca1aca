-- `judge::count_scattered` meets its contract: n is the count below k, and k is at the phase. Assumes nothing.
use Prim.Native.Nat.{◌+◌, ◌-◌}
use Rattle.rules.specs.Plan.{plan_of}
use Rattle.judge.proofs.Counts.{Counted}
use Rattle.judge.proofs.count_scattered.Given as goal

abbrev pub invariant-loop-k : goal.invariant-loop-k
invariant-loop-k l = Counted l.fn.d (plan_of l.plan) l.j l.n l.k

abbrev pub decreases-loop-k : goal.decreases-loop-k
decreases-loop-k l = l.fn.d.subcarriers + 128 - l.k
