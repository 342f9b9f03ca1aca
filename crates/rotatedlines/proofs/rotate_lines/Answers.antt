-- `rotatedlines::rotate_lines` meets its contract. The lines before the one that is next are rotated. Assumes nothing.
use native.Mathlib.Omega.{arith}
use Rattle.rotatedlines.proofs.Rotated.{rotates_first, rotates_fits, rotates_next, rotates_all}
use Rattle.rotatedlines.proofs.rotate_lines.Goals as goal

pub loop-init : goal.loop-init
loop-init c = rotates_first _ _ _ c.requires.0

pub rotate_line-requires : goal.rotate_line-requires
rotate_line-requires c =
    let f = rotates_fits _ _ _ _ _ _ _ c.loop.invariant c.loop-test.true c.requires.3 in
    (f.0, f.1, omega (arith, c.requires.2))

pub overflow_add-begin : goal.overflow_add-begin
overflow_add-begin c = omega (arith, (rotates_fits _ _ _ _ _ _ _ c.loop.invariant c.loop-test.true c.requires.3).1)

pub loop-preserved : goal.loop-preserved
loop-preserved c = rotates_next _ _ _ _ _ _ _ c.loop.invariant c.loop-test.true _ c.rotate_line.ensures

pub returns : goal.returns
returns c = rotates_all _ _ _ _ _ _ _ c.loop.invariant c.loop-test.false
