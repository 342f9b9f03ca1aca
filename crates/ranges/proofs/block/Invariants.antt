-- `ranges::block` meets its contract. Assumes nothing.
use mathlib.Core.Path.{◌≡◌}
use lib.ListN.{length}
use Rattle.ranges.specs.Swept.{Sweep}
use Rattle.ranges.proofs.block.Given as goal

abbrev pub invariant-loop-k : goal.invariant-loop-k
invariant-loop-k l = Sweep l.reach l.size l.lo l.hi l.p.n l.p.s l.p.e l.k × (length l.lo ≡ 2048) × (length l.hi ≡ 2048)
