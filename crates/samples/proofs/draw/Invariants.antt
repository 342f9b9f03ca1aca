-- `samples::draw` meets its contract. The loop has put the first i cells. Assumes nothing.
use mathlib.Core.Path.{◌≡◌}
use Rattle.samples.specs.Drawn.{nth, drawn_at, filled}
use Rattle.samples.proofs.draw.Given as goal

abbrev pub invariant-loop-i : goal.invariant-loop-i
invariant-loop-i l = (l.last ≡ nth l.x l.i) × (l.cells ≡ filled (drawn_at l.x) l.i l.initial.cells)
