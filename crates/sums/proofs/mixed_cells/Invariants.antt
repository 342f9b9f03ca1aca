-- `sums::mixed_cells` meets its contract. The loop has taken in the cells before the next. Assumes nothing.
use mathlib.Core.Path.{◌≡◌}
use lib.ListN.{take}
use Rattle.sums.specs.Sums.{mix_all}
use Rattle.sums.proofs.mixed_cells.Given as goal

abbrev pub invariant-loop-x : goal.invariant-loop-x
invariant-loop-x l = l.mix ≡ mix_all l.sum (take l.x-index l.x-items)
