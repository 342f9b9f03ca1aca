-- One band as it is read from the lists of the bands. Assumes nothing.
use Rattle.std.specs.Prelude.{ℕ, ◌<◌, ◌≤◌, ◌≡◌, List, get_or}
use Rattle.counting.specs.Runs.{Singles}
use Rattle.rules.specs.Plan.{Plan}
use Rattle.rules.specs.Bands.{excluded}
use Rattle.rules.specs.Fits.{capacity}

-- band j of the lists is low to high, and x from `from` to `to` - 1 are its individually excluded subcarriers
pub record BandAt (p : Plan) (a b x : List ℕ) (j low high from to : ℕ) : Type 0 where
  pub lowest : low ≡ get_or a j 0
  pub highest : high ≡ get_or b j 0
  pub singles : Singles (excluded p) low high x from to
  pub below : high < capacity
  pub few : to ≤ capacity
