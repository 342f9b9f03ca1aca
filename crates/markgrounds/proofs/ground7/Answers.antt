-- `markgrounds::ground7` meets its contract. Assumes nothing.
use Prim.Native.Nat.{◌+◌, ◌-◌}
use mathlib.Core.Bool.{true, false}
use native.Mathlib.Omega.{arith}
use Rattle.rules.specs.Plan.{plan_of}
use Rattle.rules.specs.Bands.{excluded}
use Rattle.marks.specs.Stages.{FirstOf}
use Rattle.marks.proofs.Painting.{first_painted}
use Rattle.marks.proofs.Around.{seven_some, seven_none}
use Rattle.markgrounds.proofs.ground7.Goals as goal
use Rattle.markgrounds.proofs.ground7.Goals.{After-first_from-k}

-- the first excluded subcarrier around the PLC
found : (c : After-first_from-k) → FirstOf true (excluded (plan_of c.args.plan.now)) (c.args.l - c.args.d.plc_margin) (c.args.l + c.args.d.plc_width + c.args.d.plc_margin) c.first_from-k.result
found c =
    let g = c in
    first_painted (excluded (plan_of g.args.plan.now)) g.args.d.subcarriers false g.args.m.now _ _ _ g.requires.1 (omega (arith, g.requires.0.plc_high, g.requires.4)) c.first_from-k.ensures

pub returns-then-k-end : goal.returns-then-k-end
returns-then-k-end c =
    let g = c in
    seven_some g.args.d (plan_of g.args.plan.now) g.requires.0 g.args.l g.requires.2 g.requires.3 g.requires.4 _ (found (goal.at.returns-then-k-end c).After-first_from-k) c.if-k-end.true

pub returns : goal.returns
returns c =
    let g = c in
    seven_none g.args.d (plan_of g.args.plan.now) g.requires.0 g.args.l g.requires.2 g.requires.3 g.requires.4 _ (found (goal.at.returns c).After-first_from-k) c.if-k-end.false
