-- `profiles::load_range` meets its contract. The range of the loads so far. Assumes nothing.
use Prim.Native.Nat.{ℕ, ◌≤◌, ◌<◌}
use lib.ListN.{get_or}
use Rattle.profiles.proofs.load_range.Given as goal

abbrev pub invariant-loop-load : goal.invariant-loop-load
invariant-loop-load l = (k : ℕ) → k < l.load-index → (l.low ≤ get_or l.profile k 0) × (get_or l.profile k 0 ≤ l.high)
