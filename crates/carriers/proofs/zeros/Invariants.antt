-- `carriers::zeros` meets its contract. Assumes nothing.
use Prim.Native.Nat.{◌+◌, ◌≤◌}
use mathlib.Core.Path.{◌≡◌}
use Rattle.counting.specs.Search.{count, is_zero}
use Rattle.carriers.proofs.zeros.Given as goal

abbrev pub invariant-loop-x : goal.invariant-loop-x
invariant-loop-x l = (l.n ≤ l.x-index) × (l.n ≡ count (λ j. is_zero l.fn.mark (l.fn.k + j)) l.x-index)
