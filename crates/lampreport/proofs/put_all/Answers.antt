-- `lampreport::put_all` meets its contract. The dark pilots of the first i are put. Assumes nothing.
use mathlib.Core.Path.{refl}
use native.Mathlib.Omega.{arith}
use lib.ListN.{take}
use Rattle.lampreport.proofs.Lines.{dark_none, dark_next}
use Rattle.lampreport.proofs.put_all.Goals as goal

pub loop-i-init : goal.loop-i-init
loop-i-init c = record { from = omega arith; few = omega arith; line = dark_none _ _ _ _ refl }

pub loop-i-preserved : goal.loop-i-preserved
loop-i-preserved c = record {
  from = omega arith;
  few = omega arith;
  line = dark_next _ _ (take c.args.at c.args.out.now) c.loop-i.i _ _ c.loop-i.invariant.line c.put_dark-end.ensures.line;
}
