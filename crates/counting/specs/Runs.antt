-- The runs of a test, and the list of the numbers of a stretch of which it holds, for a test of any kind. Assumes nothing.
use Rattle.std.specs.Prelude.{ℕ, zero, suc, ◌+◌, ◌<◌, ◌≤◌, ◌≡◌, Bool, true, false, List, get_or}
use Rattle.counting.specs.Search.{count}

-- the test holds of all from a to b - 1
abbrev pub All : (ℕ → Bool) → ℕ → ℕ → Type 0
All e a b = (k : ℕ) → a ≤ k → k < b → e k ≡ true

-- the test holds of none from a to b - 1
abbrev pub NoneIn : (ℕ → Bool) → ℕ → ℕ → Type 0
NoneIn e a b = (k : ℕ) → a ≤ k → k < b → e k ≡ false

-- where run i - 1 ends; 0 before the first
abbrev pub before : List ℕ → ℕ → ℕ
before hi zero = 0
before hi (suc i) = get_or hi i 0

-- run i is lo to hi - 1: the longest there, and the test holds of none between it and the run before
pub record Run (e : ℕ → Bool) (size : ℕ) (lo hi : List ℕ) (i : ℕ) : Type 0 where
  pub some : get_or lo i 0 < get_or hi i 0
  pub inside : get_or hi i 0 ≤ size
  pub after : 0 < i → before hi i < get_or lo i 0
  pub all : All e (get_or lo i 0) (get_or hi i 0)
  pub gap : NoneIn e (before hi i) (get_or lo i 0)

-- the n runs of a test among the numbers below size
pub record Runs (e : ℕ → Bool) (size : ℕ) (lo hi : List ℕ) (n : ℕ) : Type 0 where
  pub each : (i : ℕ) → i < n → Run e size lo hi i
  pub last : NoneIn e (before hi n) size

-- the numbers of a to b of which the test holds are x from `from` to `to` - 1, in rising order
pub record Singles (e : ℕ → Bool) (a b : ℕ) (x : List ℕ) (from to : ℕ) : Type 0 where
  pub rise : a ≤ b
  pub some : from ≤ to
  pub total : count e (suc b) + from ≡ count e a + to
  pub each : (q : ℕ) → from ≤ q → q < to → (e (get_or x q 0) ≡ true) × (count e (get_or x q 0) + from ≡ count e a + q)
