-- `coordinates::gray_rows` meets its contract. Assumes nothing.
use Prim.Native.Nat.{suc}
use mathlib.Core.Path.{◌≡◌}
use lib.ListN.{length}
use Rattle.coordinates.specs.Table.{GrayRows}
use Rattle.coordinates.proofs.gray_rows.Given as goal

abbrev pub invariant-loop-n : goal.invariant-loop-n
invariant-loop-n l = (length l.w ≡ 256) × GrayRows (suc l.n) l.w
