-- `placeholders::pattern` meets its contract. Assumes nothing.
use native.Mathlib.Omega.{arith}
use Rattle.placeholders.proofs.Turns.{first_next, wanted_first, wanted_twice}
use Rattle.placeholders.proofs.pattern.Goals as goal

pub loop-d-preserved : goal.loop-d-preserved
loop-d-preserved c = first_next _ _ c.loop-d.d _ c.loop-d.want c.loop-d.invariant c.loop-d-test.true

pub loop-len-init : goal.loop-len-init
loop-len-init c =
    let l = c.loop-d in
    wanted_first _ _ l.d _ l.want c.requires.1 (omega arith) c.loop-d-test.false c.requires.0 l.invariant

pub loop-len-preserved : goal.loop-len-preserved
loop-len-preserved c =
    let e = c.copy_within.ensures in
    wanted_twice _ _ _ _ _ (omega (arith, c.loop-len-test.true)) c.loop-len.invariant e.len (e.by_index.0, e.by_index.1)
