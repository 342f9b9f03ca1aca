-- `marks::paint` meets its contract. The loop has painted the excluded subcarriers below the end of the last run passed. Assumes nothing.
use Prim.Native.Nat.{ℕ}
use mathlib.Core.Path.{subst}
use native.Mathlib.Nat.{le_antisymm}
use Rattle.counting.specs.Runs.{before}
use Rattle.rules.specs.Plan.{plan_of}
use Rattle.rules.specs.Bands.{excluded}
use Rattle.marks.specs.Marked.{Cells}
use Rattle.marks.specs.Stages.{painted}
use Rattle.marks.proofs.Painting.{up_to, paint_start, paint_more, paint_end}
use Rattle.marks.proofs.paint.Goals as goal

pub loop-i-init : goal.loop-i-init
loop-i-init c = paint_start (excluded (plan_of c.args.plan.now)) c.args.size c.args.m.now _ c.requires.3 c.spread.ensures

pub loop-i-preserved : goal.loop-i-preserved
loop-i-preserved c =
    let e = c.wide.ensures.0 in
    let u = c.wide-in-loop-i.ensures.0 in
    paint_more (excluded (plan_of c.args.plan.now)) c.args.size c.args.lo.now c.args.hi.now c.args.n c.loop-i.i c.loop-i.m _ c.requires.0 c.loop-i-test.true c.loop-i.invariant (rw (e, u) at c.spread-in-loop-i.ensures)

pub returns : goal.returns
returns c =
    let l = c.loop-i in
    paint_end (excluded (plan_of c.args.plan.now)) c.args.size c.args.lo.now c.args.hi.now c.args.n l.m c.requires.0
    (subst (λ (x : ℕ). Cells c.args.size (painted (up_to (excluded (plan_of c.args.plan.now)) (before c.args.hi.now x))) l.m) (le_antisymm l.auto.i-end c.loop-i-test.false) l.invariant)
