-- The bytes that were read are the first of the input, and reading on prints nothing.
use Rattle.std.proofs.Common.{arith}
use Rattle.report.specs.PlanLine.{plan_line}
use Rattle.console.proofs.Taken.{taken_line}
use Rattle.plancheck.proofs.check_input.Goals as goal

pub returns : goal.returns
returns g c h =
    taken_line g.O.Write.contents plan_line _ _ _ 65536 c.read.new.bytes _ _ _ _ (omega arith) (rw c.in-Some.is at c.read.ensures.holds) (rw c.in-Some.is at c.read.ensures.takes) c.read.ensures.output c.read_rest.ensures
    (c.print_plan-printed.ensures h)
