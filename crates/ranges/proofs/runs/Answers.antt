-- `ranges::runs` meets its contract. Assumes nothing.
use mathlib.Core.Path.{◌≡◌, sym, ap, ◌∙◌}
use Prim.Native.Nat.{◌*◌}
use native.Mathlib.Omega.{arith}
use Rattle.ranges.specs.Reach.{far}
use Rattle.ranges.proofs.SweepLaws.{sweep_start, sweep_skip, sweep_end}
use Rattle.ranges.proofs.runs.Goals as goal

pub loop-b-init : goal.loop-b-init
loop-b-init c = (sweep_start _ _ c.requires.0 _ _, c.requires.2, c.requires.3)

pub loop-b-preserved-then-hot-b-eq0 : goal.loop-b-preserved-then-hot-b-eq0
loop-b-preserved-then-hot-b-eq0 c =
    let l = c.loop-b in
    (sweep_skip _ _ c.requires.0 _ _ _ _ _ (16 * l.b) _ (omega arith) (λ j u v. c.requires.1.idle l.b c.if-hot-b-eq0.true j u (omega arith)) l.invariant.0, l.invariant.1, l.invariant.2)

pub returns : goal.returns
returns c =
    let l = c.loop-b in
    let e : 16 * l.b ≡ c.args.size = omega arith in
    let k = c.close.ensures in
    (sweep_end _ _ c.requires.0 _ _ _ _ k.0 (sym (ap (far c.args.reach.now) e) ∙ l.invariant.0.upto), omega (arith, k.0.many, l.invariant.0.top, c.requires.4), k.1, k.2)
