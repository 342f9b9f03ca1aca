-- `arrivals::scatter` meets its contract. The loop has put the pilots below k, which is the next one. Assumes nothing.
use Prim.Native.Nat.{◌%◌}
use mathlib.Core.Path.{◌≡◌}
use lib.ListN.{get_or}
use Rattle.rules.specs.Device.{phases}
use Rattle.counting.proofs.Stride.{Upto}
use Rattle.arrivals.specs.Expected.{expected}
use Rattle.arrivals.proofs.scatter.Given as goal

abbrev pub invariant-loop-k : goal.invariant-loop-k
invariant-loop-k l = (l.k % phases ≡ l.base) × Upto l.width l.k (expected l.base l.initial.marks) (λ q. get_or l.initial.marks q 0) l.marks
