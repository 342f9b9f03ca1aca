-- `placing::place_row` meets its contract. Assumes nothing.
use Prim.Native.Nat.{ℕ, ◌+◌, ◌*◌, ◌/◌}
use mathlib.Core.Path.{◌≡◌}
use mathlib.Core.List.{List}
use Rattle.rows.specs.Loops.{placed_up_to}
use Rattle.placing.proofs.place_row.Given as goal

-- in both loops the cells of ranks x to y are stored
abbrev pub Walked : ℕ → List ℕ → List ℕ → ℕ → List ℕ → List ℕ → ℕ → Type 0
Walked b car cells x before after y = (l : List ℕ) → before ≡ placed_up_to b car cells x l → after ≡ placed_up_to b car cells y l

abbrev pub invariant-loop : goal.invariant-loop
invariant-loop l = (l.rank ≡ l.first + 4 * l.counter) × (l.p ≡ l.row + 4 * l.counter * l.rows) × Walked l.bits l.car l.cells l.first l.fn.out l.out l.rank

abbrev pub invariant-loop-2 : goal.invariant-loop-2
invariant-loop-2 l =
    (l.rank ≡ l.first + (4 * (l.count / 4) + l.counter)) × (l.p ≡ l.row + (4 * (l.count / 4) + l.counter) * l.rows) × Walked l.bits l.car l.cells l.first l.fn.out l.out l.rank
