-- `fill::copy_eight` meets its contract. The first loop has read the numbers below i, the second has stored those below j. Assumes nothing.
use Prim.Native.Nat.{ℕ, ◌+◌}
use mathlib.Core.List.{List}
use lib.ListN.{get_or}
use Rattle.fill.proofs.Blocks.{Stored}
use Rattle.fill.proofs.copy_eight.Given as goal

-- the numbers of x from place a on
abbrev pub from : List ℕ → ℕ → ℕ → ℕ
from x a i = get_or x (a + i) 0

abbrev pub invariant-loop-i : goal.invariant-loop-i
invariant-loop-i l = Stored l.initial.eight 0 (from l.x l.a) 8 l.i l.eight

abbrev pub invariant-loop-j : goal.invariant-loop-j
invariant-loop-j l = Stored l.initial.y l.b (from l.x l.a) 8 l.j l.y
