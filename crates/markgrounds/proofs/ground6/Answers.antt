-- `markgrounds::ground6` meets its contract. Assumes nothing.
use Prim.Native.Nat.{◌+◌}
use mathlib.Core.Bool.{true, false}
use native.Mathlib.Omega.{arith}
use Rattle.rules.specs.Plan.{plan_of}
use Rattle.rules.specs.Bands.{excluded}
use Rattle.marks.specs.Stages.{FirstOf}
use Rattle.marks.proofs.Painting.{first_painted}
use Rattle.marks.proofs.Around.{six_low, six_high, six_none}
use Rattle.markgrounds.proofs.ground6.Goals as goal
use Rattle.markgrounds.proofs.ground6.Goals.{After-first_from-j, After-first_from-k}

-- the first active subcarrier below the range, and the first above it
low : (c : After-first_from-k) → FirstOf false (excluded (plan_of c.args.plan.now)) 0 c.args.d.low_active c.first_from-k.result
low c =
    let g = c in
    first_painted (excluded (plan_of g.args.plan.now)) g.args.d.subcarriers true g.args.m.now _ _ _ g.requires.1 (omega (arith, g.requires.0.rise, g.requires.0.top)) c.first_from-k.ensures

high : (c : After-first_from-j) → FirstOf false (excluded (plan_of c.args.plan.now)) (c.args.d.high_active + 1) c.args.d.subcarriers c.first_from-j.result
high c =
    let g = c in
    first_painted (excluded (plan_of g.args.plan.now)) g.args.d.subcarriers true g.args.m.now _ _ _ g.requires.1 (omega arith) c.first_from-j.ensures

pub returns-then-k-d : goal.returns-then-k-d
returns-then-k-d c =
    let g = c in
    six_low g.args.d (plan_of g.args.plan.now) g.requires.0 _ (low (goal.at.returns-then-k-d c).After-first_from-k) c.if-k-d.true

pub returns-then-j-d : goal.returns-then-j-d
returns-then-j-d c =
    let a = c in
    let b = (goal.at.returns-then-j-d c).After-first_from-j in
    let g = (goal.at.returns-then-j-d c).After-first_from-j in
    six_high g.args.d (plan_of g.args.plan.now) g.requires.0 _ (low (goal.at.returns-then-j-d c).After-first_from-k) a.if-k-d.false _ (high (goal.at.returns-then-j-d c).After-first_from-j) c.if-j-d.true

pub returns : goal.returns
returns c =
    let a = c in
    let b = (goal.at.returns c).After-first_from-j in
    let g = (goal.at.returns c).After-first_from-j in
    six_none g.args.d (plan_of g.args.plan.now) g.requires.0 _ (low (goal.at.returns c).After-first_from-k) a.if-k-d.false _ (high (goal.at.returns c).After-first_from-j) c.if-j-d.false
