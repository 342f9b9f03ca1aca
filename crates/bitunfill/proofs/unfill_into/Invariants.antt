-- `bitunfill::unfill_into` meets its contract. The bits of the cells below c are in the stream, and `left` bits are left. Assumes nothing.
use Prim.Native.Nat.{◌+◌, ◌-◌}
use mathlib.Core.Path.{◌≡◌}
use lib.ListN.{length, take}
use Rattle.rules.specs.Bits.{total}
use Rattle.bitunfill.proofs.Pouring.{Poured}
use Rattle.bitunfill.proofs.unfill_into.Given as goal

abbrev pub invariant-loop-left : goal.invariant-loop-left
invariant-loop-left l = (l.left + total (take l.c l.loads) ≡ total l.loads) × Poured l.loads l.cells l.initial.stream l.start l.stream l.at l.bit l.held l.c

abbrev pub decreases-loop-left : goal.decreases-loop-left
decreases-loop-left l = length l.loads - l.c
