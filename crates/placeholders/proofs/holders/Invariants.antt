-- `placeholders::holders` meets its contract. Assumes nothing.
use Prim.Native.Nat.{◌≤◌}
use lib.ListN.{length}
use Rattle.placeholders.proofs.Turns.{Flagged}
use Rattle.placeholders.proofs.holders.Given as goal

abbrev pub invariant-loop-b : goal.invariant-loop-b
invariant-loop-b l = (l.b ≤ length l.kc) × Flagged l.m l.base l.kc l.flag l.b l.n
