-- `linkcheck::cell_limits::put` lends on N_D cells. Assumes nothing.
use Rattle.std.proofs.Common.{sym, arith, length-take-le}
use Rattle.linkcheck.proofs.cell_limits.put.Goals as goal

pub slice_bounds-fill_symbol-end-3 : goal.slice_bounds-fill_symbol-end-3
slice_bounds-fill_symbol-end-3 c = sym (length-take-le _ _ (omega arith))
