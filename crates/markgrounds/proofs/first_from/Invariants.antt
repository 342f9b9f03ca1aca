-- `markgrounds::first_from` meets its contract. The loop has passed cells that all are the other way. Assumes nothing.
use Prim.Native.Nat.{ℕ, ◌≤◌, ◌<◌}
use mathlib.Core.Path.{◌≡◌}
use mathlib.Core.Bool.{not}
use Rattle.counting.specs.Search.{is_zero}
use Rattle.markgrounds.proofs.first_from.Given as goal

abbrev pub invariant-loop-k : goal.invariant-loop-k
invariant-loop-k l = (j : ℕ) → l.a ≤ j → j < l.k → is_zero l.m j ≡ not l.clear
