-- `span::inner` meets its contract. Assumes nothing.
use mathlib.Core.Path.{◌≡◌, sym, ◌∙◌}
use native.Mathlib.Omega.{arith}
use Prim.Native.Nat.{◌+◌}
use Rattle.counting.proofs.Laws.{count_le}
use Rattle.rules.specs.Plan.{plan_of}
use Rattle.rules.specs.Bands.{excluded}
use Rattle.counting.specs.Runs.{Run, before}
use Rattle.span.proofs.Span.{inner_more, inner_last}
use Rattle.span.proofs.inner.Goals as goal
use Rattle.span.proofs.inner.Goals.{In-loop-i}

the_run : (c : In-loop-i) → Run (excluded (plan_of c.args.plan.now)) c.args.d.subcarriers c.args.lo.now c.args.hi.now c.loop-i.i
the_run c = c.requires.1.runs.each c.loop-i.i (omega (arith, c.loop-i-test.true))

pub overflow_add-sum : goal.overflow_add-sum
overflow_add-sum c =
    let l = c.loop-i in
    let one = the_run (goal.at.overflow_add-sum c).In-loop-i in
    omega (arith, one.some, one.inside, one.after l.auto.i, count_le (excluded (plan_of c.args.plan.now)) (before c.args.hi.now l.i))

pub loop-i-preserved : goal.loop-i-preserved
loop-i-preserved c =
    let l = c.loop-i in
    let one = the_run (goal.at.loop-i-preserved c).In-loop-i in
    omega (arith, l.invariant, one.some, inner_more _ _ _ _ _ c.requires.1 l.i l.auto.i (omega (arith, c.loop-i-test.true)))

pub returns : goal.returns
returns c =
    let l = c.loop-i in
    let last : l.i + 1 ≡ c.args.n = omega (arith, c.requires.1.two) in
    let e = inner_last _ _ _ _ _ c.requires.1 l.i last l.auto.i in
    let one = c.requires.1.runs.each l.i (omega arith) in
    (l.invariant ∙ sym e, omega (arith, l.invariant, one.some, one.inside, one.after l.auto.i, count_le (excluded (plan_of c.args.plan.now)) (before c.args.hi.now l.i)))
