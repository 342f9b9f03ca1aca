-- `bands::bands` meets its contract. The loop keeps `Loop` of proofs/Step.antt. Assumes nothing.
use mathlib.Core.Path.{◌≡◌}
use lib.ListN.{get_or}
use Rattle.rules.specs.Plan.{plan_of}
use Rattle.bands.proofs.Step.{Bounds, bounds, begin, turn_short, turn_long, finish}
use Rattle.bands.proofs.bands.Goals as goal
use Rattle.bands.proofs.bands.Goals.{After-wide-u}

-- what is known once a run is read
turn : (c : After-wide-u) →
    let l = c in
    let a = l.args in
    Bounds a.d (plan_of a.plan.now) a.lo.now a.hi.now a.n l.loop-i.m l.loop-i.nx l.loop-i.s l.loop-i.i
    × (c.wide-e.result ≡ get_or a.lo.now l.loop-i.i 0) × (c.wide-u.result ≡ get_or a.hi.now l.loop-i.i 0)
turn c =
    let l = c in
    let g = l in
    (bounds g.args.d (plan_of g.args.plan.now) g.args.lo.now g.args.hi.now g.args.n g.requires.0 g.requires.1 _ _ _ _ _ _ _ _ l.loop-i.invariant c.loop-i-test.true, c.wide-e.ensures.0, c.wide-u.ensures.0)

pub loop-i-init : goal.loop-i-init
loop-i-init c =
    let g = c in
    begin _ _ _ _ _ g.requires.0 g.requires.1 g.args.a.now g.args.b.now g.args.c.now g.args.x.now _ c.wide-s.ensures.0 g.requires.2 g.requires.3 g.requires.4 g.requires.5

pub loop-i-preserved-then-separates : goal.loop-i-preserved-then-separates
loop-i-preserved-then-separates c =
    let t = c in
    let l = t in
    let g = l in
    let k = turn (goal.at.loop-i-preserved-then-separates c).After-wide-u in
    turn_long _ _ _ _ _ g.requires.0 g.requires.1 _ _ _ _ _ _ _ _ _ _ _ l.loop-i.invariant t.loop-i-test.true k.1 k.2 c.separates.ensures c.if-separates.true

pub loop-i-preserved : goal.loop-i-preserved
loop-i-preserved c =
    let t = c in
    let l = t in
    let g = l in
    let k = turn (goal.at.loop-i-preserved c).After-wide-u in
    turn_short _ _ _ _ _ g.requires.0 g.requires.1 _ _ _ _ _ _ _ _ _ _ _ _ _ l.loop-i.invariant t.loop-i-test.true k.1 k.2 c.separates.ensures c.if-separates.false c.push-nx.ensures.0 c.push-nx.ensures.1 c.push-nx.ensures.2

pub returns : goal.returns
returns c =
    let g = c in
    finish _ _ _ _ _ g.requires.0 g.requires.1 _ _ _ _ _ _ _ _ c.loop-i.invariant c.loop-i-test.false
