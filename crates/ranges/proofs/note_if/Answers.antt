-- `ranges::note_if` meets its contract. Assumes nothing.
use mathlib.Core.Path.{sym, subst}
use mathlib.Core.Bool.{Bool}
use native.Mathlib.Omega.{arith}
use lib.ListN.{set}
use Prim.Native.Nat.{◌/◌}
use Rattle.ranges.specs.Reach.{NotedIf}
use Rattle.ranges.proofs.NoteLaws.{note_none, note_keep, note_store}
use Rattle.ranges.proofs.note_if.Goals as goal

pub returns-then-not-on : goal.returns-then-not-on
returns-then-not-on c =
    let g = c in
    subst (λ (b : Bool). NotedIf b g.args.size g.args.low g.args.end g.args.reach.now g.args.reach.now g.args.hot.now) (sym c.if-not-on.true) (note_none _ _ _ _ _ g.requires.0 g.requires.1)

pub offset_bounds-reach-low : goal.offset_bounds-reach-low
offset_bounds-reach-low c = let h = c.requires.3 c.if-not-on.false in omega (arith, h.0, h.1, c.requires.2)

pub bounds-reach-low : goal.bounds-reach-low
bounds-reach-low c = let h = c.requires.3 c.if-not-on.false in omega (arith, h.0, h.1, c.requires.2)

pub bounds-hot-low : goal.bounds-hot-low
bounds-hot-low c = let h = c.requires.3 c.if-not-on.false in omega (arith, h.0, h.1, c.requires.2)

pub returns-then-end-old : goal.returns-then-end-old
returns-then-end-old c =
    let g = c in
    let on = c.if-not-on.false in
    let h = g.requires.3 on in
    let w = c.wide-old.ensures.0 in
    subst (λ (b : Bool). NotedIf b g.args.size g.args.low g.args.end g.args.reach.now g.args.reach.now (set g.args.hot.now (g.args.low / 16) 1)) (sym on)
    (note_keep g.args.size g.args.low g.args.end g.args.reach.now g.args.hot.now g.requires.0 g.requires.1 g.requires.2 h.0 h.1 (omega (arith, w, c.if-end-old.true)))

pub overflow_cast-reach : goal.overflow_cast-reach
overflow_cast-reach c = let h = c.requires.3 c.if-not-on.false in omega (arith, h.0, h.1, c.requires.2)

pub offset_bounds-reach-low-2 : goal.offset_bounds-reach-low-2
offset_bounds-reach-low-2 c = let h = c.requires.3 c.if-not-on.false in omega (arith, h.0, h.1, c.requires.2)

pub bounds-reach-low-2 : goal.bounds-reach-low-2
bounds-reach-low-2 c = let h = c.requires.3 c.if-not-on.false in omega (arith, h.0, h.1, c.requires.2)

pub returns : goal.returns
returns c =
    let g = c in
    let on = c.if-not-on.false in
    let h = g.requires.3 on in
    let w = c.wide-old.ensures.0 in
    subst (λ (b : Bool). NotedIf b g.args.size g.args.low g.args.end g.args.reach.now (set g.args.reach.now g.args.low g.args.end) (set g.args.hot.now (g.args.low / 16) 1)) (sym on)
    (note_store g.args.size g.args.low g.args.end g.args.reach.now g.args.hot.now g.requires.0 g.requires.1 g.requires.2 h.0 h.1 (omega (arith, w, c.if-end-old.false)))
