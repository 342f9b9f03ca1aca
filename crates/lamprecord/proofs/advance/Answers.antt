-- `lamprecord::advance` meets its contract. Assumes nothing.
use native.Mathlib.Omega.{arith}
use Rattle.lamprecord.specs.Record.{lamp_cap}
use Rattle.lamprecord.proofs.Steps.{advanced_none, advanced_next, advanced_all}
use Rattle.lamprecord.proofs.advance.Goals as goal

pub loop-i-init : goal.loop-i-init
loop-i-init c = advanced_none _ _ _ _ c.requires.2

pub loop-i-preserved : goal.loop-i-preserved
loop-i-preserved c =
    let l = c.loop-i in
    advanced_next lamp_cap _ _ _ l.i l.counts _ c.loop-i-test.true l.invariant c.next_count.ensures

pub returns : goal.returns
returns c =
    let l = c.loop-i in
    advanced_all lamp_cap _ _ _ l.i l.counts _ (omega (arith, c.loop-i-test.false)) l.invariant c.more.ensures
