-- What the places of a fresh store are made from. Assumes nothing.
use Rattle.std.specs.Prelude.{◌≡◌, List, ℕ, ◌≤◌, ◌<◌, length, get_or}
use Rattle.rules.specs.declared.Device.{Device}
use Rattle.rules.specs.Device.{phases}
use Rattle.rules.specs.Fits.{Fits, capacity}
use Rattle.rules.specs.Plan.{plan_of}
use Rattle.rules.specs.Frame.{frame_of, cells, spot}

-- the device fits, the plan has its record 0 with L in its range and a depth of 1 to 128, and kc holds the subcarriers of the cells
pub record Spotted (d : Device) (s : List ℕ) (kc : List ℕ) : Type 0 where
  pub fits : Fits d
  pub long : 8 ≤ length s
  pub plc_high : (plan_of s).plc ≤ d.high_plc
  pub deep : 0 < (plan_of s).depth
  pub shallow : (plan_of s).depth ≤ phases
  pub few : length kc ≤ capacity
  pub all : length kc ≡ cells (frame_of d (plan_of s))
  pub spots : (p : ℕ) → p < length kc → get_or kc p 0 ≡ spot (frame_of d (plan_of s)) p
