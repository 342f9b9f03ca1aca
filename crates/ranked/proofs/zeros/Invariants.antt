-- `ranked::zeros` meets its contract. Assumes nothing.
use mathlib.Core.Path.{◌≡◌}
use Rattle.counting.specs.Search.{count, is_zero}
use Rattle.ranked.proofs.zeros.Given as goal

abbrev pub invariant-loop-x : goal.invariant-loop-x
invariant-loop-x l = l.n ≡ count (is_zero l.m) l.x-index
