-- Cells that are given by their number and, where all of them could be read, at the start of a list. Assumes nothing.
use Rattle.std.specs.Prelude.{◌≡◌, List, ℕ, ◌≤◌, length, take}

-- there are n cells y, and the list x begins with them if it has n
pub record Begins (x : List ℕ) (n : ℕ) (y : List ℕ) : Type 0 where
  pub number : length y ≡ n
  pub read : n ≤ length x → take n x ≡ y
