-- The exact marks of all subcarriers in an array, grounds 6 to 8, and what they are tried on. Assumes nothing.
use Rattle.std.specs.Prelude.{ℕ, ◌≤◌, ◌<◌, ◌≡◌, List, [], map, length, get_or, take, Ok, Err}
use Rattle.counting.specs.Runs.{Runs}
use Rattle.rules.specs.declared.Device.{Device}
use Rattle.rules.specs.Refusals.{Finding}
use Rattle.rules.specs.Plan.{Entry, Plan}
use Rattle.rules.specs.Bands.{excluded}
use Rattle.rules.specs.Roles.{mark}
use Rattle.rules.specs.Grounds.{◌else◌, ground?, outside, around_plc, pilot_clash, pilots_max}
use Rattle.rules.specs.Fits.{Fits, capacity}

-- an array whose first `size` cells follow the rule f
pub record Cells (size : ℕ) (f : ℕ → ℕ) (m : List ℕ) : Type 0 where
  pub long : length m ≡ capacity
  pub cell : (k : ℕ) → k < size → get_or m k 0 ≡ f k

-- an array that holds the mark of each subcarrier
abbrev pub Marked : Device → Plan → List ℕ → Type 0
Marked d p m = Cells d.subcarriers (mark d p) m

-- the first of grounds 6 to 8 that holds, with its place
unfoldable pub grounds6to8 : Device → Plan → Finding
grounds6to8 d p = ground? 6 (outside d p) else ground? 7 (around_plc d p) else ground? 8 (pilot_clash d p [] p.pilots)

-- the marks are there where no ground was found
abbrev pub MarkedIf : Finding → Device → Plan → List ℕ → Type 0
MarkedIf (Ok tt) d p m = Marked d p m
MarkedIf (Err r) d p m = Unit {0}

-- what grounds 6 to 8 are tried on: the n runs of excluded subcarriers, the numbers and records of the np kind 3 pilots, L, and an array to paint
pub record Ready (d : Device) (p : Plan) (lo hi : List ℕ) (n : ℕ) (pil rec : List ℕ) (np l : ℕ) (m : List ℕ) : Type 0 where
  pub fits : Fits d
  pub runs : Runs (excluded p) d.subcarriers lo hi n
  pub los : n ≤ length lo
  pub his : n ≤ length hi
  pub long : length m ≡ capacity
  pub below : (q : ℕ) → q < np → get_or pil q 0 < d.subcarriers
  pub nums : map (λ (e : Entry). e.low) p.pilots ≡ take np pil
  pub recs : map (λ (e : Entry). e.index) p.pilots ≡ take np rec
  pub few : np ≤ pilots_max
  pub lp : length pil ≡ 128
  pub lr : length rec ≡ 128
  pub plc : l ≡ p.plc
  pub l_low : d.low_plc ≤ l
  pub l_high : l ≤ d.high_plc
