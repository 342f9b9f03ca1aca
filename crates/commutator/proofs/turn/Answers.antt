-- `commutator::turn` meets its contract. The commutator stands on line r. Assumes nothing.
use Prim.Native.Nat.{suc, ◌≤◌}
use native.Mathlib.Nat.{mul-le-mul_right}
use native.Mathlib.Omega.{arith}
use Rattle.rules.specs.Fits.{capacity}
use Rattle.commutator.proofs.Rounds.{turning_first, turning_fits, turning_next, turning_all}
use Rattle.commutator.proofs.turn.Goals as goal

pub overflow_mul-first : goal.overflow_mul-first
overflow_mul-first c = omega (arith, mul-le-mul_right c.args.m (let l : c.args.q ≤ capacity = omega (arith, c.requires.2, c.requires.3) in l), c.requires.1)

pub loop-r-init : goal.loop-r-init
loop-r-init c = turning_first _ _ _ _ _ c.requires.0

pub overflow_add-first : goal.overflow_add-first
overflow_add-first c =
    let low : suc c.args.q ≤ capacity = omega (arith, c.requires.2, c.requires.3) in
    omega (arith, c.loop-r-test.true, mul-le-mul_right c.args.m low, c.requires.1)

pub exchange-requires : goal.exchange-requires
exchange-requires c = (turning_fits _ _ _ _ _ _ _ _ _ _ c.loop-r.invariant c.loop-r-test.true c.requires.3 c.requires.4).0

pub overflow_add-at : goal.overflow_add-at
overflow_add-at c = omega (arith, (turning_fits _ _ _ _ _ _ _ _ _ _ c.loop-r.invariant c.loop-r-test.true c.requires.3 c.requires.4).1, c.requires.2, c.requires.3)

pub overflow_add-len : goal.overflow_add-len
overflow_add-len c = omega (arith, (turning_fits _ _ _ _ _ _ _ _ _ _ c.loop-r.invariant c.loop-r-test.true c.requires.3 c.requires.4).1, c.requires.2, c.requires.3)

pub loop-r-preserved : goal.loop-r-preserved
loop-r-preserved c =
    let x = c.exchange.ensures in
    turning_next _ _ _ _ _ _ _ _ _ _ c.loop-r.invariant c.loop-r-test.true c.requires.3 c.requires.4 _ _ x.stored x.sent

pub returns : goal.returns
returns c = turning_all _ _ _ _ _ _ _ _ _ _ c.loop-r.invariant c.loop-r-test.false
