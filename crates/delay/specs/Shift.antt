-- A store that goes one place down, after a pass in groups. Assumes nothing.
use Rattle.std.specs.Prelude.{ℕ, ◌+◌, ◌≤◌, ◌<◌, ◌≡◌, List, ltb, length, get_or}
use Rattle.counting.specs.Search.{pick, tabulate}

-- r is the lesser of a and b
abbrev pub Least : ℕ → ℕ → ℕ → Type 0
Least a b r = (r ≤ a) × (r ≤ b) × (r < b → r ≡ a)

-- what place k has once the first n places have gone one place down; the last of them stays
unfoldable pub next_place : ℕ → List ℕ → ℕ → ℕ
next_place n s k = pick (ltb (k + 1) n) (get_or s (k + 1) 0) (get_or s k 0)

unfoldable pub shifted : ℕ → List ℕ → List ℕ
shifted n s = tabulate (next_place n s) (length s)
