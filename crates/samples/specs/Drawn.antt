-- The generator of the executed cases, and cells filled by a rule. Assumes nothing.
use Rattle.std.specs.Prelude.{ℕ, zero, suc, ◌*◌, ◌%◌, List, set}

-- the number after x
abbrev pub next : ℕ → ℕ
next x = x * 48271 % 2147483647

-- the number n steps after x
abbrev pub nth : ℕ → ℕ → ℕ
nth x zero = x
nth x (suc n) = next (nth x n)

-- the data cell at position i, drawn from x on
abbrev pub drawn_at : ℕ → ℕ → ℕ
drawn_at x i = nth x (suc i) % 16384

-- the cells with the first n of them put to f 0, f 1, .., f (n - 1)
abbrev pub filled : (ℕ → ℕ) → ℕ → List ℕ → List ℕ
filled f zero cells = cells
filled f (suc n) cells = set (filled f n cells) n (f n)
