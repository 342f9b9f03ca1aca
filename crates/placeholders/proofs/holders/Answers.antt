-- `placeholders::holders` meets its contract. Assumes nothing.
use Prim.Native.Nat.{◌+◌}
use mathlib.Core.Path.{◌≡◌, ap, ◌∙◌}
use native.Mathlib.Omega.{arith}
use lib.ListN.{length}
use Rattle.counting.specs.Search.{count}
use Rattle.counting.proofs.Laws.{count_le}
use Rattle.placeholders.specs.Meets.{meets}
use Rattle.placeholders.proofs.Turns.{Flagged, flagged_none, flagged_next}
use Rattle.placeholders.proofs.holders.Goals as goal
use Rattle.placeholders.proofs.holders.Goals.{After-wide-n}

pub loop-b-init : goal.loop-b-init
loop-b-init c = (omega arith, flagged_none _ _ _ _)

pub overflow_add-n : goal.overflow_add-n
overflow_add-n c =
    let a = c.args in
    let l = c.loop-b in
    omega (arith, c.requires.3, l.invariant.1.number, count_le (meets a.base a.m a.kc.now) l.b, c.wide-n.ensures.1)

-- one block more
next : (c : After-wide-n) → Flagged c.args.m c.args.base c.args.kc.now c.meet-more.new.flag (c.loop-b.b + c.min-k.result) (c.loop-b.n + c.wide-n.result)
next c =
    let a = c.args in
    let l = c.loop-b in
    let k = c.min-k in
    let met = c.meet-more in
    flagged_next a.m a.base _ a.kc.now _ c.pattern-len.ensures l.b k.result (l.invariant.1.turns c.loop-b-test.true) (omega (arith, k.ensures)) _ _ l.n _
    (omega (arith, k.ensures, c.requires.4)) (λ z. omega (arith, k.ensures)) met.ensures.flags (c.wide-n.ensures.0 ∙ met.ensures.number) l.invariant.1

pub loop-b-preserved : goal.loop-b-preserved
loop-b-preserved c =
    let e : c.min-k.result ≡ c.pattern-len.result = omega (arith, c.min-k.ensures) in
    (omega arith, rw e at (next (goal.at.loop-b-preserved c).After-wide-n))

pub returns-2-clause-flags : goal.returns-2-clause-flags
returns-2-clause-flags c = λ p h. (next (goal.at.returns-2-clause-flags c).After-wide-n).flags p (omega (arith, c.min-k.ensures))

pub returns-2-clause-number : goal.returns-2-clause-number
returns-2-clause-number c =
    let e : c.loop-b.b + c.min-k.result ≡ length c.args.kc.now = omega (arith, c.min-k.ensures) in
    (next (goal.at.returns-2-clause-number c).After-wide-n).number ∙ ap (count (meets c.args.base c.args.m c.args.kc.now)) e

pub returns-clause-number : goal.returns-clause-number
returns-clause-number c =
    let e : c.loop-b.b ≡ length c.args.kc.now = omega arith in
    c.loop-b.invariant.1.number ∙ ap (count (meets c.args.base c.args.m c.args.kc.now)) e
