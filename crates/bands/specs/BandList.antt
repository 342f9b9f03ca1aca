-- The bands of a plan as lists, made from the runs of what it excludes. Assumes nothing.
use Rattle.std.specs.Prelude.{ℕ, ◌+◌, ◌<◌, ◌≤◌, ◌≡◌, List, length, get_or, Option}
use Rattle.counting.specs.Search.{first}
use Rattle.counting.specs.Runs.{Runs, before, Singles}
use Rattle.rules.specs.declared.Device.{Device}
use Rattle.rules.specs.Plan.{Plan}
use Rattle.rules.specs.Bands.{excluded, first_band}

-- the runs of what a plan excludes, two or more: the first begins at 0, the last ends at the last subcarrier
pub record EdgeRuns (d : Device) (p : Plan) (lo hi : List ℕ) (n : ℕ) : Type 0 where
  pub runs : Runs (excluded p) d.subcarriers lo hi n
  pub two : 2 ≤ n
  pub bottom : get_or lo 0 0 ≡ 0
  pub top : before hi n ≡ d.subcarriers
  pub lows : n ≤ length lo
  pub highs : n ≤ length hi

-- m bands: band j is a to b, and x from c j to c (j + 1) - 1 are its individually excluded subcarriers
pub record BandList (d : Device) (p : Plan) (a b c x : List ℕ) (m : ℕ) : Type 0 where
  pub all : (f : ℕ → ℕ → Option ℕ) → first_band d p f ≡ first (λ j. f (get_or a j 0) (get_or b j 0)) m
  pub each : (j : ℕ) → j < m → Singles (excluded p) (get_or a j 0) (get_or b j 0) x (get_or c j 0) (get_or c (j + 1) 0)
  pub below : (j : ℕ) → j < m → get_or b j 0 < d.subcarriers
  pub few : (j : ℕ) → j < m → get_or c (j + 1) 0 ≤ d.subcarriers

-- the numbers e to u - 1 put into x from `at` on
pub record Pushed (x y : List ℕ) (at e u : ℕ) : Type 0 where
  pub kept : (q : ℕ) → q < at → get_or y q 0 ≡ get_or x q 0
  pub new : (q : ℕ) → at ≤ q → q + e < at + u → get_or y q 0 + at ≡ e + q
