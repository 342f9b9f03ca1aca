-- `placing::place_rows` meets its contract. Assumes nothing.
use mathlib.Core.Path.{◌≡◌}
use lib.ListN.{length}
use Rattle.frame.specs.Rows.{rows_before}
use Rattle.rows.specs.Loops.{placed_up_to}
use Rattle.placing.proofs.place_rows.Given as goal

abbrev pub invariant-loop-i : goal.invariant-loop-i
invariant-loop-i l = (l.rank ≡ rows_before l.bits (length l.cells) l.i) × (l.out ≡ placed_up_to l.bits l.car l.cells l.rank l.fn.out)
