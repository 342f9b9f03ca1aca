-- `bytewrite::write_same` meets its contract. The loop has written the first i cells. Assumes nothing.
use mathlib.Core.Path.{◌≡◌}
use lib.ListN.{take, replicate}
use lib.Seq.{sets}
use Rattle.bytecells.specs.Octets.{bytes_of}
use Rattle.bytewrite.proofs.write_same.Given as goal

abbrev pub invariant-loop-i : goal.invariant-loop-i
invariant-loop-i l = l.b ≡ sets l.initial.b 0 (bytes_of (take l.i (replicate l.n l.x)))
