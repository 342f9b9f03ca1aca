-- `rotatedlines::rotate_line` meets its contract. Assumes nothing.
use Rattle.rotatedlines.proofs.Rotated.{line_rotated}
use Rattle.rotatedlines.proofs.rotate_line.Goals as goal

pub returns : goal.returns
returns c = line_rotated _ _ _ _ _ _ _ _ c.requires.0 c.copy_cells.ensures c.shift_down.ensures c.copy_cells-2.ensures
