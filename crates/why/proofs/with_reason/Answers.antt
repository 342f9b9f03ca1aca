-- `why::with_reason` meets its contract, role by role. Assumes nothing.
use mathlib.Core.Path.{◌≡◌, sym, ap, ◌∙◌}
use Rattle.rules.specs.declared.Role.{Role}
use Rattle.rules.specs.declared.Reason.TheVariants.{ExcludedBy, DataBut}
use Rattle.facts.proofs.Accepted.{good_length}
use Rattle.reasons.specs.Reasons.{excludes, with_reason}
use Rattle.why.proofs.Answered.{data_ranked}
use Rattle.std.proofs.Common.{rules}
use Rattle.why.proofs.with_reason.Goals as goal
use Rattle.why.proofs.with_reason.Goals.{Start}

-- the reason of the role that was given, of the role that was matched
of_role : (g : Start) (r : Role) → g.args.r ≡ r → with_reason g.args.d g.args.plan.now g.args.k g.args.j r ≡ with_reason g.args.d g.args.plan.now g.args.k g.args.j g.args.r
of_role g r e = sym (ap (with_reason g.args.d g.args.plan.now g.args.k g.args.j) e)

pub first_record-requires-clause-sized : goal.first_record-requires-clause-sized
first_record-requires-clause-sized c = let g = c in good_length g.args.d g.args.plan.now g.requires.1

pub scattered_phase-requires : goal.scattered_phase-requires
scattered_phase-requires c =
    let g = c in
    (g.requires.0, g.requires.1, g.requires.2, data_ranked g.args.d g.args.plan.now g.args.k g.args.j g.requires.2 (sym g.requires.3 ∙ c.in-Data.is))

pub returns-in-Excluded : goal.returns-in-Excluded
unfolding with_reason
returns-in-Excluded c = ap ExcludedBy (c.first_record.ensures (excludes c.args.k) (λ e b h. search rules)) ∙ of_role (goal.at.returns-in-Excluded c).Start _ c.in-Excluded.is

pub returns-in-Plc : goal.returns-in-Plc
unfolding with_reason
returns-in-Plc c = of_role (goal.at.returns-in-Plc c).Start _ c.in-Plc.is

pub returns-in-Continuous : goal.returns-in-Continuous
unfolding with_reason
returns-in-Continuous c = c.pilot_reason.ensures ∙ of_role (goal.at.returns-in-Continuous c).Start _ c.in-Continuous.is

pub returns-in-Scattered : goal.returns-in-Scattered
unfolding with_reason
returns-in-Scattered c = of_role (goal.at.returns-in-Scattered c).Start _ c.in-Scattered.is

pub returns-in-Data : goal.returns-in-Data
unfolding with_reason
returns-in-Data c = ap DataBut c.scattered_phase.ensures ∙ of_role (goal.at.returns-in-Data c).Start _ c.in-Data.is
