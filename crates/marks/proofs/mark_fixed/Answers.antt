-- `marks::mark_fixed` meets its contract. Assumes nothing.
use mathlib.Core.Path.{sym, subst}
use mathlib.Core.List.{List}
use mathlib.Core.Bool.{false}
use Prim.Native.Nat.{ℕ}
use Rattle.rules.specs.Plan.{plan_of}
use Rattle.rules.specs.Roles.{one_of, continuous_mark}
use Rattle.rules.specs.Fits.{capacity}
use Rattle.marks.specs.Marked.{Cells}
use Rattle.marks.specs.Stages.{Stamped, AllBelow, with_pilots}
use Rattle.marks.proofs.Placing.{plc_marked, all_below, pilots_marked}
use Rattle.marks.proofs.mark_fixed.Goals as goal
use Rattle.marks.proofs.mark_fixed.Goals.{After-spread}

with_plc : (c : After-spread) → Cells c.args.d.subcarriers (with_pilots c.args.d (plan_of c.args.plan.now) (λ k. false)) c.spread.new.m
with_plc c =
    let g = c in
    plc_marked g.args.d (plan_of g.args.plan.now) g.args.l g.args.m.now c.spread.new.m g.requires.0 g.requires.1 c.spread.ensures

pub mark_pilots-requires : goal.mark_pilots-requires
mark_pilots-requires c =
    let g = c in
    (c.spread.ensures.long, subst (AllBelow capacity) (sym c.pilots_of.ensures) (all_below g.args.d (plan_of g.args.plan.now) g.args.l g.requires.0))

pub returns : goal.returns
returns c =
    let s = c in
    let g = (goal.at.returns c).After-spread in
    pilots_marked g.args.d (plan_of g.args.plan.now) g.args.l g.requires.0 s.spread.new.m _ (with_plc (goal.at.returns c).After-spread)
    (subst (λ (ps : List ℕ). Stamped continuous_mark (λ k. one_of k ps) s.spread.new.m c.mark_pilots.new.m) c.pilots_of.ensures c.mark_pilots.ensures)
