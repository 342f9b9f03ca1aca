-- `samples::depth_of` meets its contract. Assumes nothing.
use mathlib.Core.Path.{sym}
use native.Mathlib.Omega.{arith}
use lib.ListN.{get_or-eq_default}
use Rattle.samples.proofs.depth_of.Goals as goal

pub returns-then-plan-lt8 : goal.returns-then-plan-lt8
returns-then-plan-lt8 c = sym (get_or-eq_default c.args.plan.now 0 (omega arith))
