-- `datalimit::over_cells` meets its contract. The loop has counted the first p cells. Assumes nothing.
use mathlib.Core.Path.{◌≡◌}
use Rattle.counting.specs.Search.{count}
use Rattle.datalimit.proofs.Over.{is_over}
use Rattle.datalimit.proofs.over_cells.Given as goal

abbrev pub invariant-loop-p : goal.invariant-loop-p
invariant-loop-p l = l.n ≡ count (is_over l.profile l.kc l.x) l.p
