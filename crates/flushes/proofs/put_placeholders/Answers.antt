-- `flushes::put_placeholders` meets its contract. The placeholders of the cells so far are put. Assumes nothing.
use Prim.Native.Nat.{◌+◌, ◌≤◌}
use mathlib.Core.Path.{◌≡◌}
use native.Mathlib.Omega.{arith}
use lib.ListN.{length}
use Rattle.flushes.proofs.Putting.{putting_first, putting_fits, putting_next}
use Rattle.flushes.proofs.put_placeholders.Goals as goal
use Rattle.flushes.proofs.put_placeholders.Goals.{In-loop-k}

-- the places of the cell lie within the store
fits : (c : In-loop-k)
    → (c.loop-k.at + c.loop-k.delay ≤ length c.loop-k.store) × (length c.loop-k.store ≡ length c.args.store.now)
fits c =
    let g = c in
    let a = g.args in
    let l = c.loop-k in
    putting_fits a.m a.base a.kc.now a.store.now l.store l.k-index l.at l.delay l.invariant (omega arith) g.requires.3

pub loop-k-init : goal.loop-k-init
loop-k-init c = let a = c.args in putting_first a.m a.base a.kc.now a.store.now

pub put_placeholder-requires : goal.put_placeholder-requires
put_placeholder-requires c = (fits (goal.at.put_placeholder-requires c).In-loop-k).0

pub overflow_add-at : goal.overflow_add-at
overflow_add-at c = let f = fits (goal.at.overflow_add-at c).In-loop-k in omega (arith, f.0, f.1)

pub loop-k-preserved : goal.loop-k-preserved
loop-k-preserved c =
    let a = c.args in
    let l = c.loop-k in
    putting_next a.m a.base a.kc.now a.store.now l.store l.k-index l.at l.delay l.invariant (omega arith) _ _ _ c.symbols_until-i.ensures c.put_placeholder.ensures c.next_delay-delay.ensures
