-- `bytewrite::write_cells` meets its contract. The loop has written the first i cells. Assumes nothing.
use Prim.Native.Nat.{◌*◌}
use mathlib.Core.Path.{◌≡◌}
use lib.ListN.{take}
use lib.Seq.{sets}
use Rattle.bytecells.specs.Octets.{bytes_of}
use Rattle.bytewrite.proofs.write_cells.Given as goal

abbrev pub invariant-loop-i : goal.invariant-loop-i
invariant-loop-i l = l.b ≡ sets l.initial.b (2 * l.at) (bytes_of (take l.i l.x))
