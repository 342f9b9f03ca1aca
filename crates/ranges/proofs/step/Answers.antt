-- `ranges::step` meets its contract. Assumes nothing.
use mathlib.Core.Path.{◌≡◌, sym, ◌∙◌}
use mathlib.Core.Logic.{inl, inr}
use native.Mathlib.Omega.{arith}
use lib.ListN.{get_or}
use Rattle.ranges.proofs.SweepLaws.{sweep_grow, sweep_new, past_some}
use Rattle.ranges.proofs.step.Goals as goal

pub returns-then-q-eq0 : goal.returns-then-q-eq0
returns-then-q-eq0 c =
    let g = c in
    let z : get_or g.args.reach.now g.args.k 0 ≡ 0 = sym c.wide-q.ensures.0 ∙ c.if-q-eq0.true in
    (sweep_grow _ _ g.requires.0 _ _ _ _ _ g.args.k _ g.requires.1 (inl z) (omega arith), g.requires.2, g.requires.3)

pub returns-then-e-k : goal.returns-then-e-k
returns-then-e-k c =
    let w = c in
    let g = w in
    let k = c.close-m.ensures in (
      sweep_new _ _ g.requires.0 _ _ _ _ g.args.k _ k.0 g.requires.1.upto c.if-e-k.true w.wide-q.ensures.0
          (past_some _ _ g.args.k _ g.requires.0 w.wide-q.ensures.0 c.if-q-eq0.false),
      k.1,
      k.2,
    )

pub returns-then-e-q : goal.returns-then-e-q
returns-then-e-q c =
    let w = c in
    let g = w in
    (sweep_grow _ _ g.requires.0 _ _ _ _ _ g.args.k _ g.requires.1 (inr c.if-e-k.false) (omega (arith, w.wide-q.ensures.0, c.if-e-q.true)), g.requires.2, g.requires.3)

pub returns : goal.returns
returns c =
    let w = c in
    let g = w in
    (sweep_grow _ _ g.requires.0 _ _ _ _ _ g.args.k _ g.requires.1 (inr c.if-e-k.false) (omega (arith, w.wide-q.ensures.0, c.if-e-q.false)), g.requires.2, g.requires.3)
