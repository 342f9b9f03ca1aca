-- Row after row (document 02, Req 06): the step from cell to cell, and the walk that it makes (our word) through n cells in 2 ^ b rows
-- (document 01, "Cells and interleaving"). Place x stands in row x mod 2 ^ b, column x div 2 ^ b. A cell stands at the place of its number
-- if its column is not turned, and none is today: the turn is a parameter. Assumes nothing.
use Rattle.std.specs.Prelude.{ℕ, zero, suc, ◌+◌, ◌-◌, ◌*◌, ◌%◌, ◌/◌, ◌^◌, ◌<◌, ◌≡◌, ◌&&◌, ltb, Option, Some, unwrap_or, option_map, option_and_then}
use Rattle.counting.specs.Search.{pick, when, lowest}
use Rattle.rules.specs.Frame.{reversed, house_key}

-- the number of the next row read after the i-th that has a cell: the i-th row read is i with its b bits reversed
unfoldable pub row_after : ℕ → ℕ → ℕ → Option ℕ
row_after b n i = lowest (λ k. ltb i k && ltb (reversed b k) n) (2 ^ b)

-- the place read after x: the next along its row, else the first of the next row that has one; nothing where x is read last
unfoldable pub next_place : ℕ → ℕ → ℕ → Option ℕ
next_place b n x = pick (ltb (x + 2 ^ b) n) (Some (x + 2 ^ b)) (option_map (reversed b) (row_after b n (reversed b (x % 2 ^ b))))

-- the place of cell q where column c is turned by s c rows: row a goes to row a + s c, modulo the number R of rows
unfoldable pub turned : ℕ → (ℕ → ℕ) → ℕ → ℕ
turned R s q = q / R * R + (q % R + s (q / R)) % R

-- the cell at place x
unfoldable pub unturned : ℕ → (ℕ → ℕ) → ℕ → ℕ
unturned R s x = x / R * R + (x % R + (R - s (x / R) % R)) % R

-- no column is turned
abbrev pub straight : ℕ → ℕ
straight c = 0

-- columns that are not full are not turned
abbrev pub Stays : ℕ → ℕ → (ℕ → ℕ) → Type 0
Stays R n s = (c : ℕ) → n < c * R + R → s c ≡ 0

-- cells are read by the place at which they stand
unfoldable pub turned_key : ℕ → ℕ → (ℕ → ℕ) → ℕ → ℕ
turned_key b c s q = house_key b c (turned (2 ^ b) s q)

-- the step: the cell read after cell p
unfoldable pub next_cell : ℕ → ℕ → (ℕ → ℕ) → ℕ → Option ℕ
next_cell b n s p = option_map (unturned (2 ^ b) s) (next_place b n (turned (2 ^ b) s p))

-- number i of the walk: the cell at place 0, if there is one, and from each the step
unfoldable pub walked : ℕ → ℕ → (ℕ → ℕ) → ℕ → Option ℕ
walked b n s zero = when (ltb 0 n) (unturned (2 ^ b) s 0)
walked b n s (suc i) = option_and_then (next_cell b n s) (walked b n s i)

-- the same as a number, 0 past the end, with no column turned
unfoldable pub walk_cell : ℕ → ℕ → ℕ → ℕ
walk_cell b n i = unwrap_or (walked b n straight i) 0
