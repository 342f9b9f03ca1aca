-- `marks::paint` meets its contract. The loop has painted the excluded subcarriers below the end of the last run passed. Assumes nothing.
use Rattle.counting.specs.Runs.{before}
use Rattle.rules.specs.Plan.{plan_of}
use Rattle.rules.specs.Bands.{excluded}
use Rattle.marks.specs.Marked.{Cells}
use Rattle.marks.specs.Stages.{painted}
use Rattle.marks.proofs.Painting.{up_to}
use Rattle.marks.proofs.paint.Given as goal

abbrev pub invariant-loop-i : goal.invariant-loop-i
invariant-loop-i l = Cells l.size (painted (up_to (excluded (plan_of l.plan)) (before l.hi l.i))) l.m
