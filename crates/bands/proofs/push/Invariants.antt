-- `bands::push` meets its contract. The loop keeps that the numbers below y are put. Assumes nothing.
use mathlib.Core.Path.{◌≡◌}
use lib.ListN.{length}
use Rattle.rules.specs.Fits.{capacity}
use Rattle.bands.specs.BandList.{Pushed}
use Rattle.bands.proofs.push.Given as goal

abbrev pub invariant-loop-y : goal.invariant-loop-y
invariant-loop-y l = (length l.x ≡ capacity) × Pushed l.initial.x l.x l.at l.e l.y
