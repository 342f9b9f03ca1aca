-- What a sweep over a table of ends keeps while it writes the runs. Assumes nothing.
use Rattle.std.specs.Prelude.{◌≡◌, List, ℕ, ◌+◌, ◌*◌, ◌<◌, ◌≤◌}
use Rattle.counting.specs.Runs.{All, NoneIn, Run, before}
use Rattle.ranges.specs.Reach.{far, hit}

-- k first numbers are passed, n runs are written, and s to e - 1 is the run that may still grow
pub record Sweep (r : List ℕ) (size : ℕ) (lo hi : List ℕ) (n s e k : ℕ) : Type 0 where
  pub upto : far r k ≡ e
  pub runs : (i : ℕ) → i < n → Run (hit r) size lo hi i
  pub sep : 0 < n → before hi n < s
  pub gap : NoneIn (hit r) (before hi n) s
  pub all : All (hit r) s e
  pub many : 2 * n ≤ s
  pub fresh : e ≤ s → (n ≡ 0) × (s ≡ 0)
  pub top : e ≤ size

-- all runs are written, the last one ends at e
pub record Closed (r : List ℕ) (size : ℕ) (lo hi : List ℕ) (n e : ℕ) : Type 0 where
  pub runs : (i : ℕ) → i < n → Run (hit r) size lo hi i
  pub last : before hi n ≡ e
  pub many : 2 * n ≤ e + 1
