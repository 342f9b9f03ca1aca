-- `bitput::put_cells` meets its contract. The bits of the cells below c are put; those of cell c begin at bit o of byte `byte`. Assumes nothing.
use Prim.Native.Nat.{◌+◌, ◌*◌, ◌<◌}
use mathlib.Core.Path.{◌≡◌}
use lib.ListN.{length, take}
use lib.Seq.{sets}
use Rattle.rules.specs.Bits.{total, cell_bits, stream_bits}
use Rattle.bitput.proofs.put_cells.Given as goal

abbrev pub invariant-loop-load : goal.invariant-loop-load
invariant-loop-load l =
    let c = length l.yielded in
    record {
      place : l.byte * 8 + l.o ≡ l.at * 8 + l.bit + total (take c l.loads);
      inner : l.o < 8;
      filled : stream_bits l.stream ≡ sets (stream_bits l.initial.stream) (l.at * 8 + l.bit) (cell_bits (take c l.loads) (take c l.cells));
    }
