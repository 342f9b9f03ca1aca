-- `samples::inputs::draw` meets its contract. The loop has put the first i cells. Assumes nothing.
use mathlib.Core.Path.{◌≡◌}
use Rattle.samples.specs.Drawn.{filled}
use Rattle.samples.specs.Inputs.{data_cell}
use Rattle.samples.proofs.inputs.draw.Given as goal

abbrev pub invariant-loop-i : goal.invariant-loop-i
invariant-loop-i l = l.cells ≡ filled (data_cell l.seed l.limits) l.i l.initial.cells
