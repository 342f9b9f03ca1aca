-- `fill::fill_filler` meets its contract. The loop has filled the cells below p. Assumes nothing.
use Rattle.fill.specs.Flags.{filler_cell}
use Rattle.counting.proofs.Lists.{Laid}
use lib.ListN.{length}
use Rattle.fill.proofs.fill_filler.Given as goal

abbrev pub invariant-loop-p : goal.invariant-loop-p
invariant-loop-p l = Laid (filler_cell l.flag) (length l.initial.cells) l.p l.cells
