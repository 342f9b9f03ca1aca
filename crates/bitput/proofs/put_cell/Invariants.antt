-- `bitput::put_cell` meets its contract. The i lowest bits of x are put. Assumes nothing.
use Prim.Native.Nat.{◌+◌, ◌*◌}
use mathlib.Core.Path.{◌≡◌}
use lib.Seq.{sets}
use Rattle.rules.specs.Bits.{digits, stream_bits}
use Rattle.bitput.proofs.put_cell.Given as goal

abbrev pub invariant-loop-i : goal.invariant-loop-i
invariant-loop-i l = stream_bits l.stream ≡ sets (stream_bits l.initial.stream) (l.at * 8 + l.bit) (digits l.i l.x)
