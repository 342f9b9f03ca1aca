-- `modulatecases::modulated` lends no more than there is. Assumes nothing.
use mathlib.Core.Path.{sym}
use lib.Seq.{length-take-le}
use Rattle.modulatecases.proofs.modulated.Goals as goal

pub slice_bounds-modulate-end : goal.slice_bounds-modulate-end
slice_bounds-modulate-end c = sym (length-take-le _ _ c.at_most-a.ensures)

pub slice_bounds-modulate-end-2 : goal.slice_bounds-modulate-end-2
slice_bounds-modulate-end-2 c = sym (length-take-le _ _ c.at_most-b.ensures)

pub slice_bounds-modulate-end-3 : goal.slice_bounds-modulate-end-3
slice_bounds-modulate-end-3 c = sym (length-take-le _ _ c.at_most-c.ensures)

pub slice_bounds-modulate-end-5 : goal.slice_bounds-modulate-end-5
slice_bounds-modulate-end-5 c = sym (length-take-le _ _ c.at_most-n.ensures)
