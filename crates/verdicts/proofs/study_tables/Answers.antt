-- `verdicts::study_tables` meets its contract. Assumes nothing.
use mathlib.Core.Path.{sym, ◌∙◌, subst}
use Rattle.rules.specs.Refusals.{Finding}
use Rattle.rules.specs.Plan.{plan_of}
use Rattle.marks.specs.Marked.{Marked, MarkedIf, Ready}
use Rattle.verdicts.proofs.Edges.{ready, edges}
use Rattle.verdicts.proofs.Verdicts.{verdict_early, verdict_late, studied_if}
use Rattle.rules.proofs.Findings.{passed_on}
use Rattle.verdicts.proofs.study_tables.Goals as goal
use Rattle.verdicts.proofs.study_tables.Goals.{After-grounds_6_to_8-arg-1, In_ok-grounds_6_to_8}

-- what grounds 6 to 8 are tried on
prepared : (c : After-grounds_6_to_8-arg-1) →
    let g = c in
    let r = c.runs-n in
    Ready g.args.d (plan_of g.args.plan.now) r.new.lo r.new.hi r.result g.args.pil.now g.args.rec.now g.args.np c.number_at-l.result g.args.m.now
prepared c =
    let g = c in
    let r = c.runs-n in
    ready g.args.d g.args.plan.now g.args.np g.args.reach.now g.args.hot.now _ _ _ _ _ _ _ g.requires.0 g.requires.1 r.ensures.0 r.ensures.1 r.ensures.2 r.ensures.3 c.number_at-l.ensures.0 g.requires.3

-- the marks, where no ground of 6 to 8 was found
passed : (c : In_ok-grounds_6_to_8) →
    let g = c in
    Marked g.args.d (plan_of g.args.plan.now) c.grounds_6_to_8.new.m
passed c =
    let g = c in
    let r = c.grounds_6_to_8 in
    subst (λ (f : Finding). MarkedIf f g.args.d (plan_of g.args.plan.now) r.new.m) c.in_ok-grounds_6_to_8.was r.ensures.1

pub grounds_6_to_8-requires : goal.grounds_6_to_8-requires
grounds_6_to_8-requires c = prepared c

pub grounds_9_to_15-requires : goal.grounds_9_to_15-requires
grounds_9_to_15-requires c =
    let told = c in
    (c.requires.0, edges _ _ _ _ _ _ _ _ _ _ (prepared (goal.at.grounds_9_to_15-requires c).After-grounds_6_to_8-arg-1) (sym told.in_ok-grounds_6_to_8.was ∙ told.grounds_6_to_8.ensures.0), passed (goal.at.grounds_9_to_15-requires c).In_ok-grounds_6_to_8)

pub returns-in_err-grounds_6_to_8 : goal.returns-in_err-grounds_6_to_8
returns-in_err-grounds_6_to_8 c =
    let e = c.grounds_6_to_8.ensures in
    rw (passed_on _ c.from_residual.ensures) (verdict_early c.args.d c.args.plan.now _ _ c.requires.2 (sym c.in_err-grounds_6_to_8.was ∙ e.0), tt, e.2)

pub returns : goal.returns
returns c =
    let g = c in
    let told = c in
    let r = told.grounds_6_to_8 in
    let w = g.requires.1 in (
      c.grounds_9_to_15.ensures ∙ verdict_late g.args.d g.args.plan.now g.requires.2 (sym told.in_ok-grounds_6_to_8.was ∙ r.ensures.0),
      studied_if c.grounds_9_to_15.result g.args.d g.args.plan.now r.new.m (record { long = w.long; plc_low = w.plc_low; plc_high = w.plc_high; marked = passed (goal.at.returns c).In_ok-grounds_6_to_8 }),
      r.ensures.2,
    )
