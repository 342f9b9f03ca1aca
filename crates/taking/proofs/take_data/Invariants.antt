-- `taking::take_data` meets its contract. The data of the blocks below b is taken. Assumes nothing.
use Prim.Native.Nat.{◌*◌}
use mathlib.Core.Path.{◌≡◌}
use Rattle.counting.specs.Search.{count, is_zero}
use Rattle.taking.proofs.Taking.{Taken}
use Rattle.taking.proofs.take_data.Given as goal

abbrev pub invariant-loop-b : goal.invariant-loop-b
invariant-loop-b l = (l.taken ≡ count (is_zero l.flag) (16 * l.b)) × Taken l.flag l.cells l.initial.buffer l.taken l.buffer
