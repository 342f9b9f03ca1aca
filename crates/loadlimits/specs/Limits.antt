-- The limit of each load (request 04), and which cells it admits. Assumes nothing.
use Rattle.std.specs.Prelude.{ℕ, ◌^◌, ◌<◌, ◌≡◌, Bool, not, ◌&&◌, ◌||◌, List, ltb, length, get_or}
use Rattle.counting.specs.Search.{pick}
use Rattle.points.specs.Points.{load_listed}
use Rattle.modulator.specs.Lines.{marked}

-- the values of a load are below its limit, 2 to the load; a load not listed has no values
unfoldable pub limit_of : ℕ → ℕ
limit_of m = pick (load_listed m) (2 ^ m) 0

-- a value below the limit, or a mark where the load is listed
unfoldable pub admits : ℕ → ℕ → Bool
admits limit cell = ltb cell limit || (ltb 0 limit && marked cell)

-- the cell of subcarrier k is not admitted
unfoldable pub unadmitted : List ℕ → List ℕ → ℕ → Bool
unadmitted symbol loads k = not (admits (limit_of (get_or loads k 0)) (get_or symbol k 0))

-- a table of the limits of all bytes
pub record Limits (t : List ℕ) : Type 0 where
  pub long : length t ≡ 256
  pub each : (m : ℕ) → m < 256 → get_or t m 0 ≡ limit_of m
