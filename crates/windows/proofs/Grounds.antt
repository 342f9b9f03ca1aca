-- Grounds 13 and 14 as searches over the lists of the bands. Assumes nothing.
use mathlib.Core.Path.{◌≡◌}
use mathlib.Core.List.{List}
use Prim.Native.Nat.{ℕ}
use Rattle.counting.specs.Search.{first}
use Rattle.rules.specs.declared.Device.{Device}
use Rattle.rules.specs.Plan.{Plan}
use Rattle.rules.specs.Grounds.{full_window}
use Rattle.bands.specs.BandList.{BandList}
use Rattle.limits.specs.Answers.{at_band}
use Rattle.windows.specs.Windows.{window_in}

pub window_is : (d : Device) (p : Plan) (a b c x : List ℕ) (m : ℕ) → BandList d p a b c x m → (size most : ℕ) → full_window d p size most ≡ first (at_band (window_in p size most) a b) m
unfolding full_window window_in
window_is d p a b c x m l size most = l.all (window_in p size most)
