-- `judge::role_in` meets its contract: ground 16, then the role test. Assumes nothing.
use mathlib.Core.Path.{ap, ◌∙◌}
use native.Mathlib.Omega.{arith}
use Rattle.std.specs.Prelude.{Ok}
use Rattle.rules.specs.Plan.{plan_of}
use Rattle.rules.specs.Roles.{predefined}
use Rattle.judge.proofs.EntryAnswers.{role_out_subcarrier, role_out_phase, role_is}
use Rattle.judge.proofs.role_in.Goals as goal

pub returns-then-d-at : goal.returns-then-d-at
returns-then-d-at c =
    let g = c in
    role_out_subcarrier g.args.d g.args.plan.now g.args.k g.args.phase c.if-d-at.true

pub returns-then-j-ge-PHASES : goal.returns-then-j-ge-PHASES
returns-then-j-ge-PHASES c =
    let g = c in
    role_out_phase g.args.d g.args.plan.now g.args.k g.args.phase c.if-j-ge-PHASES.true

pub pilots_of-pilots-requires : goal.pilots_of-pilots-requires
pilots_of-pilots-requires c =
    let w = c.requires.1 in
    let e = c.number_at-l.ensures.0 in
    (c.requires.0, unfold plan_of in (omega (arith, w.plc_low, e)), unfold plan_of in (omega (arith, w.plc_high, e)))

pub role_test-requires : goal.role_test-requires
role_test-requires c =
    let g = c in
    let w = g.requires.1 in
    let e = c.number_at-l.ensures.0 in (
      g.requires.0,
      w.marked.cell g.args.k c.if-d-at.false,
      unfold plan_of in (c.pilots_of-pilots.ensures ∙ ap (predefined g.args.d) e),
      unfold plan_of in e,
      unfold plan_of in (omega (arith, w.plc_high, e)),
      c.if-d-at.false,
      c.if-j-ge-PHASES.false,
    )

pub returns : goal.returns
returns c =
    let g = c in
    ap Ok c.role_test.ensures ∙ role_is g.args.d g.args.plan.now g.args.k g.args.phase c.if-d-at.false c.if-j-ge-PHASES.false
