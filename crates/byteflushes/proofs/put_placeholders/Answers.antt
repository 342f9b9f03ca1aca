-- `byteflushes::put_placeholders` meets its contract. The placeholders of the cells so far are put. Assumes nothing.
use native.Mathlib.Omega.{arith}
use Rattle.byteflushes.proofs.BytePutting.{byte_first, byte_fits, byte_next}
use Rattle.byteflushes.proofs.put_placeholders.Goals as goal

pub loop-k-init : goal.loop-k-init
loop-k-init c =
    let a = c.args in
    byte_first a.m a.base a.kc.now a.store.now c.requires.3

pub put_placeholder-requires : goal.put_placeholder-requires
put_placeholder-requires c =
    let a = c.args in
    let l = c.loop-k in
    (l.invariant.whole, (byte_fits a.m a.base a.kc.now a.store.now c.requires.3 l.store l.k-index l.at l.delay l.invariant c.loop-k-test.true c.requires.4).0)

pub overflow_add-at : goal.overflow_add-at
overflow_add-at c =
    let a = c.args in
    let l = c.loop-k in
    omega (arith, (byte_fits a.m a.base a.kc.now a.store.now c.requires.3 l.store l.k-index l.at l.delay l.invariant c.loop-k-test.true c.requires.4).0)

pub loop-k-preserved : goal.loop-k-preserved
loop-k-preserved c =
    let a = c.args in
    let l = c.loop-k in
    byte_next a.m a.base a.kc.now a.store.now c.requires.3 l.store l.k-index l.at l.delay l.invariant c.loop-k-test.true _ _ _ c.symbols_until.ensures c.put_placeholder.ensures c.next_delay-delay.ensures
