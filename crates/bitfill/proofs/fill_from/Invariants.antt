-- `bitfill::fill_from` meets its contract. The cells below c are filled, and `left` bits are left. Assumes nothing.
use Prim.Native.Nat.{◌+◌, ◌*◌, ◌-◌, ◌≤◌, ◌<◌}
use mathlib.Core.Path.{◌≡◌}
use lib.ListN.{length, take}
use Rattle.rules.specs.Bits.{total, filled_from}
use Rattle.bitfill.proofs.fill_from.Given as goal

abbrev pub invariant-loop-left : goal.invariant-loop-left
invariant-loop-left l =
    (l.left + total (take l.c l.loads) ≡ total l.loads) × (l.c ≤ length l.loads) × (l.at * 8 + l.bit ≡ l.start + total (take l.c l.loads)) × (l.bit < 8) × (length l.cells ≡ length l.initial.cells)
    × (take l.c l.cells ≡ take l.c (filled_from l.loads l.stream l.start))

abbrev pub decreases-loop-left : goal.decreases-loop-left
decreases-loop-left l = length l.loads - l.c
