-- `loadlimits::admitted` meets its contract, test by test. Assumes nothing.
use mathlib.Core.Path.{refl}
use native.Mathlib.Omega.{arith}
use borrow.Author.Tests.{lt-ltb, le-ltb}
use Rattle.modulator.proofs.LineLaws.{below_marks, above_marks, at_marks}
use Rattle.loadlimits.specs.Limits.{admits}
use Rattle.loadlimits.proofs.admitted.Goals as goal

pub returns-then-cell-limit : goal.returns-then-cell-limit
unfolding admits
returns-then-cell-limit c = rw (lt-ltb c.args.cell c.args.limit c.if-cell-limit.true) refl

pub returns-then-limit-eq0 : goal.returns-then-limit-eq0
unfolding admits
returns-then-limit-eq0 c =
    let a = c.args in
    rw (le-ltb a.cell a.limit c.if-cell-limit.false, le-ltb 0 a.limit (omega arith)) refl

pub returns-then-cell-lt32768 : goal.returns-then-cell-lt32768
unfolding admits
returns-then-cell-lt32768 c =
    let a = c.args in
    rw (le-ltb a.cell a.limit c.if-cell-limit.false, lt-ltb 0 a.limit (omega arith), below_marks a.cell c.if-cell-lt32768.true) refl

pub returns-then-cell-gt32772 : goal.returns-then-cell-gt32772
unfolding admits
returns-then-cell-gt32772 c =
    let a = c.args in
    rw (le-ltb a.cell a.limit c.if-cell-limit.false, lt-ltb 0 a.limit (omega arith), above_marks a.cell c.if-cell-gt32772.true) refl

pub returns : goal.returns
unfolding admits
returns c =
    let a = c.args in
    rw (le-ltb a.cell a.limit c.if-cell-limit.false, lt-ltb 0 a.limit (omega arith), at_marks a.cell c.if-cell-lt32768.false (omega arith)) refl
