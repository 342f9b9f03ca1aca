-- `markgrounds::grounds_6_to_8` meets its contract. Assumes nothing.
use mathlib.Core.Path.{◌≡◌, refl, sym, ap, ◌∙◌, subst}
use Rattle.std.specs.Prelude.{Some, None, Option, ℕ}
use Rattle.rules.specs.Plan.{plan_of}
use Rattle.rules.specs.Grounds.{outside, around_plc}
use Rattle.marks.specs.Stages.{AfterPilots}
use Rattle.marks.proofs.Marks.{found_is}
use Rattle.markgrounds.proofs.grounds_6_to_8.Goals as goal
use Rattle.markgrounds.proofs.grounds_6_to_8.Goals.{After-ground6, After-ground7, After-ground8, In_default, In_default-ground7}

-- past ground 6, and past ground 7
no_six : (c : In_default) → outside c.args.d ((plan_of c.args.plan.now)) ≡ None
no_six c = sym c.ground6.ensures ∙ c.in_default.is

no_seven : (c : In_default-ground7) → around_plc c.args.d ((plan_of c.args.plan.now)) ≡ None
no_seven c = sym c.ground7.ensures ∙ c.in_default-ground7.is

pub returns-in-Some : goal.returns-in-Some
returns-in-Some c =
    let a = c in
    let g = (goal.at.returns-in-Some c).After-ground6 in
    (found_is g.args.d ((plan_of g.args.plan.now)) (Some _) _ _ (sym a.ground6.ensures ∙ c.in-Some.is) refl refl, tt, a.paint.ensures.long)

pub returns-in-Some-ground7 : goal.returns-in-Some-ground7
returns-in-Some-ground7 c =
    let a = c in
    let g = (goal.at.returns-in-Some-ground7 c).After-ground7 in
    (found_is g.args.d ((plan_of g.args.plan.now)) None (Some _) _ (no_six (goal.at.returns-in-Some-ground7 c).In_default) (sym a.ground7.ensures ∙ c.in-Some-ground7.is) refl, tt, a.paint.ensures.long)

pub mark_fixed-requires : goal.mark_fixed-requires
mark_fixed-requires c =
    let a = c in
    let r = a.requires in
    (record { fits = r.fits; plc = r.plc; low = r.l_low; high = r.l_high; around = sym (no_seven (goal.at.mark_fixed-requires c).In_default-ground7) }, a.paint.ensures)

pub returns-in-Some-ground8 : goal.returns-in-Some-ground8
returns-in-Some-ground8 c =
    let a = c in
    let g = (goal.at.returns-in-Some-ground8 c).After-ground8 in (
      found_is g.args.d ((plan_of g.args.plan.now)) None None (Some _) (no_six (goal.at.returns-in-Some-ground8 c).In_default) (no_seven (goal.at.returns-in-Some-ground8 c).In_default-ground7) (sym a.ground8.ensures.0 ∙ c.in-Some-ground8.is),
      tt,
      subst (λ (r : Option ℕ). AfterPilots r g.args.d ((plan_of g.args.plan.now)) a.ground8.new.m) c.in-Some-ground8.is a.ground8.ensures.1,
    )

pub returns-in-None : goal.returns-in-None
returns-in-None c =
    let a = c in
    let g = (goal.at.returns-in-None c).After-ground8 in
    let all = subst (λ (r : Option ℕ). AfterPilots r g.args.d ((plan_of g.args.plan.now)) a.ground8.new.m) c.in-None.is a.ground8.ensures.1 in
    (found_is g.args.d ((plan_of g.args.plan.now)) None None None (no_six (goal.at.returns-in-None c).In_default) (no_seven (goal.at.returns-in-None c).In_default-ground7) (sym a.ground8.ensures.0 ∙ c.in-None.is), all, all.long)
