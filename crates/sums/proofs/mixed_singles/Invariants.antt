-- `sums::mixed_singles` meets its contract. The loop has taken in the numbers before the next. Assumes nothing.
use mathlib.Core.Path.{◌≡◌}
use lib.ListN.{take}
use Rattle.sums.specs.Sums.{mix_all, patterns}
use Rattle.sums.proofs.mixed_singles.Given as goal

abbrev pub invariant-loop-y : goal.invariant-loop-y
invariant-loop-y l = l.mix ≡ mix_all l.sum (patterns (take l.y-index l.singles))
