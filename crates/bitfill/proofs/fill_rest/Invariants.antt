-- `bitfill::fill_rest` meets its contract. The cells below c are filled; the bits of cell c begin at bit o of byte `byte`. Assumes nothing.
use Prim.Native.Nat.{◌+◌, ◌*◌, ◌<◌}
use mathlib.Core.Path.{◌≡◌}
use lib.ListN.{take}
use Rattle.rules.specs.Bits.{total, filled_from}
use Rattle.bitfill.proofs.fill_rest.Given as goal

abbrev pub invariant-loop-c : goal.invariant-loop-c
invariant-loop-c l = record {
  place : l.byte * 8 + l.o ≡ l.start + total (take l.c l.loads);
  inner : l.o < 8;
  filled : take l.c l.cells ≡ take l.c (filled_from l.loads l.stream l.start);
}
