-- `rows::carry_row` meets its contract. Assumes nothing.
use Prim.Native.Nat.{ℕ, ◌+◌, ◌*◌, ◌/◌}
use mathlib.Core.Path.{◌≡◌}
use mathlib.Core.List.{List}
use lib.ListN.{length}
use Rattle.rows.specs.Loops.{carried_up_to}
use Rattle.rows.proofs.carry_row.Given as goal

-- in both loops the subcarriers of ranks x to y are stored
abbrev pub Walked : ℕ → List ℕ → ℕ → List ℕ → List ℕ → ℕ → Type 0
Walked b car x before after y =
    (l : List ℕ) → before ≡ carried_up_to b (length before) car x l → after ≡ carried_up_to b (length before) car y l

abbrev pub invariant-loop : goal.invariant-loop
invariant-loop l = (l.rank ≡ l.first + 4 * l.counter) × (l.cell ≡ l.row + 4 * l.counter * l.rows) × Walked l.bits l.car l.first l.fn.kc l.kc l.rank

abbrev pub invariant-loop-2 : goal.invariant-loop-2
invariant-loop-2 l =
    (l.rank ≡ l.first + (4 * (l.count / 4) + l.counter)) × (l.cell ≡ l.row + (4 * (l.count / 4) + l.counter) * l.rows) × Walked l.bits l.car l.first l.fn.kc l.kc l.rank
