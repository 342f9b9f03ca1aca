-- `taking::take_cells` meets its contract. The loop has passed i cells; what is taken is taken whatever stood in the buffer before the data of
-- the cells below cell p. Assumes nothing.
use Prim.Native.Nat.{ℕ, ◌+◌}
use mathlib.Core.Path.{◌≡◌}
use mathlib.Core.List.{List}
use lib.ListN.{length}
use Rattle.counting.specs.Search.{count, is_zero}
use Rattle.taking.proofs.Taking.{Taken}
use Rattle.taking.proofs.take_cells.Given as goal

abbrev pub invariant-loop-i : goal.invariant-loop-i
invariant-loop-i l =
    (l.taken ≡ count (is_zero l.flag) (l.p + l.i)) × ((b : List ℕ) → Taken l.flag l.cells b l.initial.taken l.initial.buffer → Taken l.flag l.cells b l.taken l.buffer) × (length l.buffer ≡ length l.initial.buffer)
