-- `coordinates::fill_even` meets its contract. Assumes nothing.
use native.Mathlib.Omega.{arith}
use native.Mathlib.Numerals.{add-one}
use Rattle.coordinates.proofs.RowLaws.{rows_one, rows_even}
use Rattle.coordinates.proofs.fill_even.Goals as goal

pub loop-n-init : goal.loop-n-init
loop-n-init c = rows_one c.args.t.now _ _ c.requires.0 c.factor.ensures c.fill_row.ensures

pub loop-n-preserved : goal.loop-n-preserved
loop-n-preserved c =
    rw add-one (rows_even c.loop-n.t _ c.loop-n.n _ _ (omega arith) c.loop-n.invariant c.power.ensures c.factor-in-loop-n.ensures c.fill_row-in-loop-n.ensures)
