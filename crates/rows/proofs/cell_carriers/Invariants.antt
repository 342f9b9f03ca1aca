-- `rows::cell_carriers` meets its contract. Assumes nothing.
use mathlib.Core.Path.{◌≡◌}
use lib.ListN.{length}
use Rattle.frame.specs.Rows.{rows_before}
use Rattle.rows.specs.Loops.{carried_up_to}
use Rattle.rows.proofs.cell_carriers.Given as goal

abbrev pub invariant-loop-i : goal.invariant-loop-i
invariant-loop-i l = (l.rank ≡ rows_before l.bits (length l.kc) l.i) × (l.kc ≡ carried_up_to l.bits (length l.kc) l.car l.rank l.fn.kc)
