-- `figurecheck::pair::first_apart` meets its contract. The loop has passed k subcarriers, whose cells are the same. Assumes nothing.
use Rattle.std.proofs.Common.{◌≡◌, ℕ, Bool, not, eqb, List, get_or}
use Rattle.std.specs.Prelude.{None}
use Rattle.counting.specs.Search.{lowest}
use Rattle.figurecheck.proofs.pair.first_apart.Given as goal

-- the cells of subcarrier k differ
abbrev pub apart : List ℕ → List ℕ → ℕ → Bool
apart first second k = not (eqb (get_or first k 0) (get_or second k 0))

abbrev pub invariant-loop-k : goal.invariant-loop-k
invariant-loop-k l = lowest (apart l.first l.second) l.k ≡ None
