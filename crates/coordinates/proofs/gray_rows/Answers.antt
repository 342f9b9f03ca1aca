-- `coordinates::gray_rows` meets its contract. Assumes nothing.
use mathlib.Core.Path.{◌∙◌}
use native.Mathlib.Omega.{arith}
use lib.IntN.{pos}
use lib.ListN.{length-set}
use Rattle.coordinates.proofs.GrayTable.{first_row}
use Rattle.coordinates.proofs.gray_rows.Goals as goal

pub loop-n-init : goal.loop-n-init
loop-n-init c = (length-set c.args.w.now 1 (pos 0) ∙ c.requires, first_row c.args.w.now (omega (arith, c.requires)))
