-- `windows::window_in` meets its contract. The loop keeps that no single before single q is near enough to the one `most` after it. Assumes nothing.
use Prim.Native.Nat.{ℕ, ◌+◌, ◌≤◌, ◌<◌}
use lib.ListN.{get_or}
use Rattle.windows.proofs.window_in.Given as goal

abbrev pub invariant-loop-q : goal.invariant-loop-q
invariant-loop-q l = (j : ℕ) → j < l.q → l.from ≤ j → j + l.most < l.to → get_or l.x (j + l.most) 0 < get_or l.x j 0 + l.size → ⊥
