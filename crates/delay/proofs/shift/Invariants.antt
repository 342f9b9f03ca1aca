-- `delay::shift` meets its contract. Each place that has been passed has the next one's cell. Assumes nothing.
use Prim.Native.Nat.{◌-◌}
use lib.ListN.{length, get_or}
use Rattle.counting.proofs.Stride.{Upto}
use Rattle.delay.specs.Shift.{next_place}
use Rattle.delay.proofs.shift.Given as goal

abbrev pub invariant-loop-k : goal.invariant-loop-k
invariant-loop-k l = Upto (length l.initial.store) (l.k - 1) (next_place l.n l.initial.store) (λ q. get_or l.initial.store q 0) l.store
