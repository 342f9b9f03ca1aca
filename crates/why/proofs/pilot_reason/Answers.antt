-- `why::pilot_reason` meets its contract: predefined, below or above the PLC, or made by a record. Assumes nothing.
use mathlib.Core.Path.{◌≡◌, sym, ap, ◌∙◌}
use mathlib.Core.Bool.{Bool, true, false}
use native.Mathlib.Omega.{arith}
use Rattle.rules.specs.declared.Reason.TheVariants.{PilotAbove, PilotBy}
use Rattle.rules.specs.Plan.{plan_of}
use Rattle.rules.specs.Roles.{one_of, predefined}
use Rattle.facts.proofs.Accepted.{good_length, long, plc_in}
use Rattle.roles.proofs.Distances.{pilot_past}
use Rattle.why.proofs.Pilots.{by_record, by_below, by_above}
use Rattle.reasons.specs.Reasons.{makes_pilot}
use Rattle.std.proofs.Common.{rules}
use Rattle.why.proofs.pilot_reason.Goals as goal
use Rattle.why.proofs.pilot_reason.Goals.{After-is_among, After-number_at-l}

-- L, as it was read
plc : (c : After-number_at-l) → c.number_at-l.result ≡ (plan_of c.args.plan.now).plc
unfolding plan_of
plc c = c.number_at-l.ensures.0

-- whether k is predefined, as it was tested
among : (c : After-is_among) (b : Bool) → c.is_among.result ≡ b → one_of c.args.k (predefined c.args.d c.number_at-l.result) ≡ b
among c b e = ap (one_of c.args.k) (sym c.pilots_of.ensures) ∙ sym c.is_among.ensures ∙ e

pub number_at-l-requires : goal.number_at-l-requires
number_at-l-requires c = let g = c in omega (arith, long g.args.d g.args.plan.now g.requires.1)

pub pilots_of-requires : goal.pilots_of-requires
pilots_of-requires c =
    let g = c in
    let w = plc_in g.args.d g.args.plan.now g.requires.1 in
    (g.requires.0, omega (arith, plc c, w.0), omega (arith, plc c, w.1))

pub first_record-requires-clause-sized : goal.first_record-requires-clause-sized
first_record-requires-clause-sized c = let g = c in good_length g.args.d g.args.plan.now g.requires.1

pub returns-then-not-is_among : goal.returns-then-not-is_among
returns-then-not-is_among c =
    let n = c in
    let g = n in
    ap PilotBy (c.first_record.ensures (makes_pilot c.args.k) (λ e b h. search rules))
    ∙ by_record g.args.d g.args.plan.now g.args.k n.number_at-l.result (plc (goal.at.returns-then-not-is_among c).After-number_at-l) (among (goal.at.returns-then-not-is_among c).After-is_among false c.if-not-is_among.true)

pub returns-then-k-l : goal.returns-then-k-l
returns-then-k-l c =
    let n = c in
    let g = n in
    by_below g.args.d g.args.plan.now g.args.k n.number_at-l.result (plc (goal.at.returns-then-k-l c).After-number_at-l) (among (goal.at.returns-then-k-l c).After-is_among true c.if-not-is_among.false) c.if-k-l.true

pub above_plc-requires : goal.above_plc-requires
above_plc-requires c =
    let n = c in
    let g = n in
    let w = plc_in g.args.d g.args.plan.now g.requires.1 in (
      g.requires.0,
      omega (arith, plc (goal.at.above_plc-requires c).After-number_at-l, w.1),
      pilot_past g.args.d n.number_at-l.result g.args.k g.requires.0 (omega (arith, plc (goal.at.above_plc-requires c).After-number_at-l, w.0)) (among (goal.at.above_plc-requires c).After-is_among true c.if-not-is_among.false) c.if-k-l.false,
    )

pub returns : goal.returns
returns c =
    let n = c in
    let g = n in
    ap PilotAbove c.above_plc.ensures
    ∙ by_above g.args.d g.args.plan.now g.args.k n.number_at-l.result (plc (goal.at.returns c).After-number_at-l) (among (goal.at.returns c).After-is_among true c.if-not-is_among.false) c.if-k-l.false
