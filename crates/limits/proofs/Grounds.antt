-- Grounds 9, 10 and 12 as searches over the lists of the bands. Assumes nothing.
use mathlib.Core.Path.{◌≡◌, ap}
use mathlib.Core.List.{List}
use Prim.Native.Nat.{ℕ}
use Rattle.counting.specs.Search.{first, is_none}
use Rattle.rules.specs.declared.Device.{Device}
use Rattle.rules.specs.Plan.{Plan}
use Rattle.rules.specs.Grounds.{narrow_band, no_wide_band, much_in_band}
use Rattle.bands.specs.BandList.{BandList}
use Rattle.limits.specs.Answers.{narrow_in, wide_in, much_in, at_band}

module _ (d : Device) (p : Plan) (a b c x : List ℕ) (m : ℕ) (l : BandList d p a b c x m) where
  pub narrow_is : narrow_band d p ≡ first (at_band (narrow_in d.band_min) a b) m
  unfolding narrow_band narrow_in
  narrow_is = l.all (narrow_in d.band_min)

  pub wide_is : no_wide_band d p ≡ is_none (first (at_band (wide_in d.band_wide) a b) m)
  unfolding no_wide_band wide_in
  wide_is = ap is_none (l.all (wide_in d.band_wide))

  pub much_in_is : much_in_band d p ≡ first (at_band (much_in p) a b) m
  unfolding much_in_band much_in
  much_in_is = l.all (much_in p)
