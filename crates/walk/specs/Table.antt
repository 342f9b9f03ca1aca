-- Walks with no column turned, cell by cell, as a second model has them (tests/walk.py): in eight rows, of which the last ones are empty
-- where there are few cells, and the beginning of Plan A's, 425 cells in 128 rows, with the step at its end. Assumes nothing.
use Rattle.std.specs.Prelude.{ℕ, ◌≡◌, List, [], ◌∷◌, Some, None}
use Rattle.counting.specs.Search.{tabulate}
use Rattle.walk.specs.Walk.{straight, next_cell, walk_cell}

-- the first k cells of the walk through n cells in 2 ^ b rows
abbrev pub walk_list : ℕ → ℕ → ℕ → List ℕ
walk_list b n k = tabulate (walk_cell b n) k

abbrev pub WalkTable : Type 0
WalkTable =
    (walk_list 3 0 0 ≡ [])
    × (walk_list 3 1 1 ≡ 0 ∷ [])
    × (walk_list 3 3 3 ≡ 0 ∷ 2 ∷ 1 ∷ [])
    × (walk_list 3 6 6 ≡ 0 ∷ 4 ∷ 2 ∷ 1 ∷ 5 ∷ 3 ∷ [])
    × (walk_list 3 8 8 ≡ 0 ∷ 4 ∷ 2 ∷ 6 ∷ 1 ∷ 5 ∷ 3 ∷ 7 ∷ [])
    × (walk_list 3 11 11 ≡ 0 ∷ 8 ∷ 4 ∷ 2 ∷ 10 ∷ 6 ∷ 1 ∷ 9 ∷ 5 ∷ 3 ∷ 7 ∷ [])
    × (next_cell 3 3 straight 1 ≡ None)
    × (next_cell 3 6 straight 5 ≡ Some 3)
    × (next_cell 3 6 straight 3 ≡ None)
    × (walk_list 7 425 9 ≡ 0 ∷ 128 ∷ 256 ∷ 384 ∷ 64 ∷ 192 ∷ 320 ∷ 32 ∷ 160 ∷ [])
    × (next_cell 7 425 straight 319 ≡ Some 127)
    × (next_cell 7 425 straight 383 ≡ None)
