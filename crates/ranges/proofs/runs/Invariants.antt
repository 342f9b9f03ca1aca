-- `ranges::runs` meets its contract. Assumes nothing.
use mathlib.Core.Path.{◌≡◌}
use Prim.Native.Nat.{◌*◌}
use lib.ListN.{length}
use Rattle.ranges.specs.Swept.{Sweep}
use Rattle.ranges.proofs.runs.Given as goal

abbrev pub invariant-loop-b : goal.invariant-loop-b
invariant-loop-b l = Sweep l.reach l.size l.lo l.hi l.o.n l.o.s l.o.e (16 * l.b) × (length l.lo ≡ 2048) × (length l.hi ≡ 2048)
