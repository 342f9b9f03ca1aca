-- `span::much` meets its contract. Assumes nothing.
use native.Mathlib.Omega.{arith}
use Rattle.rules.specs.Plan.{plan_of}
use Rattle.span.proofs.Span.{Edges, edges, much_is}
use Rattle.span.proofs.much.Goals as goal
use Rattle.span.proofs.much.Goals.{After-wide-end}

-- the lowest active subcarrier lies below the last run
apart : (c : After-wide-end) → let g = c in Edges g.args.d (plan_of g.args.plan.now) g.args.lo.now g.args.hi.now g.args.n g.requires.1
apart c = edges _ _ _ _ _ c.requires.1

pub overflow_sub-end : goal.overflow_sub-end
overflow_sub-end c = omega (arith, (apart c).low, c.wide-end.ensures.0)

pub width_of-requires : goal.width_of-requires
width_of-requires c =
    let w = apart c in
    let fit = c.requires.0 in
    (omega (arith, w.low, c.wide-end.ensures.0, c.wide-first.ensures.0), omega (arith, w.high, fit.few, c.wide-end.ensures.0))

pub returns : goal.returns
returns c =
    let k = c.inner-g in
    much_is _ _ _ _ _ c.requires.1 k.result _ _ _ k.ensures.0 c.wide-first.ensures.0 c.wide-end.ensures.0 c.width_of.ensures
