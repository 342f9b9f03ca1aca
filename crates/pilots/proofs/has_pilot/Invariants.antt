-- `pilots::has_pilot` meets its contract. Assumes nothing.
use Prim.Native.Nat.{◌+◌}
use mathlib.Core.Path.{◌≡◌}
use Rattle.counting.specs.Search.{count}
use Rattle.pilots.specs.Marked.{is_marked}
use Rattle.pilots.proofs.has_pilot.Given as goal

abbrev pub invariant-loop-x : goal.invariant-loop-x
invariant-loop-x l = l.h ≡ 0 → count (λ j. is_marked l.marks (l.k + j)) l.x-index ≡ 0
