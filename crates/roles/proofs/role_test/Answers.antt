-- `roles::role_test` meets its contract. Assumes nothing.
use mathlib.Core.Path.{◌≡◌, refl, sym, ap, ◌∙◌}
use mathlib.Core.Logic.{inl, inr}
use mathlib.Core.Bool.{true, false}
use borrow.Author.Tests.{eq-eqb, ne_eqb}
use Rattle.rules.specs.Plan.{plan_of}
use Rattle.rules.specs.Bands.{excluded}
use Rattle.rules.specs.Roles.{one_of, in_plc, continuous}
use Rattle.roles.proofs.Testing.{in_plc_lem, off_plc, role_is, among_pilots, told_excluded, told_active, told_pilot, told_ranked, scattered_is}
use Rattle.roles.proofs.role_test.Goals as goal
use Rattle.roles.proofs.role_test.Goals.{then-l-k+else-k-l, else-l-k, Else-m-eq-CONTINUOUS, Else-m-eq-EXCLUDED, Joined-l-k}

-- what the tests that failed leave: k is not excluded, not in the PLC, no pilot
active : (c : Else-m-eq-EXCLUDED) → excluded (plan_of c.args.plan.now) c.args.k ≡ false
active c = let g = c in told_active g.args.d (plan_of g.args.plan.now) g.args.k g.args.m g.requires.1 c.if-m-eq-EXCLUDED.false

off : (c : Joined-l-k) → in_plc c.args.d (plan_of c.args.plan.now) c.args.k ≡ false
off c = let g = c in off_plc g.args.d (plan_of g.args.plan.now) g.args.l g.requires.3 g.args.k (elim c.if-l-k.branch [ then-l-k+else-k-l w ↦ inr w.if-k-l.false | else-l-k w ↦ inl w.if-l-k.false ])

no_pilot : (c : Else-m-eq-CONTINUOUS) → continuous c.args.d (plan_of c.args.plan.now) c.args.k ≡ false
no_pilot c =
    let o = c in
    let g = o in
    told_ranked g.args.d (plan_of g.args.plan.now) g.args.k g.args.m g.requires.1 (let g = o in told_active g.args.d (plan_of g.args.plan.now) g.args.k g.args.m g.requires.1 o.if-m-eq-EXCLUDED.false) (let g = o in off_plc g.args.d (plan_of g.args.plan.now) g.args.l g.requires.3 g.args.k (elim o.if-l-k.branch [ then-l-k+else-k-l w ↦ inr w.if-k-l.false | else-l-k w ↦ inl w.if-l-k.false ])) c.if-m-eq-CONTINUOUS.false

pub returns-then-m-eq-EXCLUDED : goal.returns-then-m-eq-EXCLUDED
returns-then-m-eq-EXCLUDED c =
    let g = c in
    role_is g.args.d (plan_of g.args.plan.now) g.args.j g.args.k true _ _ _ (told_excluded g.args.d (plan_of g.args.plan.now) g.args.k g.args.m g.requires.1 c.if-m-eq-EXCLUDED.true) refl refl refl

pub returns-then-k-l : goal.returns-then-k-l
returns-then-k-l c =
    let a = c in
    let g = (goal.at.returns-then-k-l c).Else-m-eq-EXCLUDED in
    role_is g.args.d (plan_of g.args.plan.now) g.args.j g.args.k false true _ _ (active (goal.at.returns-then-k-l c).Else-m-eq-EXCLUDED) (in_plc_lem g.args.d (plan_of g.args.plan.now) g.args.l g.requires.3 g.args.k c.if-l-k.true c.if-k-l.true) refl refl

pub returns-then-is_among : goal.returns-then-is_among
returns-then-is_among c =
    let o = c in
    let g = (goal.at.returns-then-is_among c).Joined-l-k in
    role_is g.args.d (plan_of g.args.plan.now) g.args.j g.args.k false false true _ (active (goal.at.returns-then-is_among c).Else-m-eq-EXCLUDED) (off (goal.at.returns-then-is_among c).Joined-l-k)
    (among_pilots g.args.d (plan_of g.args.plan.now) g.args.k (sym (c.is_among.ensures ∙ ap (one_of g.args.k) g.requires.2) ∙ c.if-is_among.true)) refl

pub returns-then-m-eq-CONTINUOUS : goal.returns-then-m-eq-CONTINUOUS
returns-then-m-eq-CONTINUOUS c =
    let o = c in
    let g = (goal.at.returns-then-m-eq-CONTINUOUS c).Joined-l-k in
    role_is g.args.d (plan_of g.args.plan.now) g.args.j g.args.k false false true _ (active (goal.at.returns-then-m-eq-CONTINUOUS c).Else-m-eq-EXCLUDED) (off (goal.at.returns-then-m-eq-CONTINUOUS c).Joined-l-k) (told_pilot g.args.d (plan_of g.args.plan.now) g.args.k g.args.m g.requires.1 (active (goal.at.returns-then-m-eq-CONTINUOUS c).Else-m-eq-EXCLUDED) (off (goal.at.returns-then-m-eq-CONTINUOUS c).Joined-l-k) c.if-m-eq-CONTINUOUS.true) refl

pub returns-then-k-l-2 : goal.returns-then-k-l-2
returns-then-k-l-2 c =
    let o = c in
    let g = (goal.at.returns-then-k-l-2 c).Joined-l-k in
    role_is g.args.d (plan_of g.args.plan.now) g.args.j g.args.k false false false true (active (goal.at.returns-then-k-l-2 c).Else-m-eq-EXCLUDED) (off (goal.at.returns-then-k-l-2 c).Joined-l-k) (no_pilot (goal.at.returns-then-k-l-2 c).Else-m-eq-CONTINUOUS)
    (scattered_is g.args.d (plan_of g.args.plan.now) g.args.l g.requires.3 g.args.j g.args.k true (eq-eqb _ _ c.if-k-l-2.true))

pub returns : goal.returns
returns c =
    let o = c in
    let g = (goal.at.returns c).Joined-l-k in
    role_is g.args.d (plan_of g.args.plan.now) g.args.j g.args.k false false false false (active (goal.at.returns c).Else-m-eq-EXCLUDED) (off (goal.at.returns c).Joined-l-k) (no_pilot (goal.at.returns c).Else-m-eq-CONTINUOUS)
    (scattered_is g.args.d (plan_of g.args.plan.now) g.args.l g.requires.3 g.args.j g.args.k false (ne_eqb _ _ c.if-k-l-2.false))
