-- `figureflushes::put_placeholders` meets its contract. The placeholders of the cells so far are put. Assumes nothing.
use Prim.Native.Nat.{◌+◌, ◌*◌, ◌≤◌, ◌<◌}
use mathlib.Core.Path.{◌≡◌}
use native.Mathlib.Omega.{arith}
use lib.ListN.{length}
use Rattle.figureflushes.proofs.Putting.{putting_first, putting_fits, putting_next, putting_turn}
use Rattle.figureflushes.proofs.put_placeholders.Goals as goal
use Rattle.figureflushes.proofs.put_placeholders.Goals.{then-line-m, else-line-m}
use Rattle.figureflushes.proofs.put_placeholders.Goals.{In-loop-k}

-- the line of the cell lies within the store
fits : (c : In-loop-k)
    → (c.loop-k.turn < c.ceiling-j.result)
    × (c.loop-k.begins + c.loop-k.line * c.ceiling-j.result ≤ length c.loop-k.store)
    × (length c.loop-k.store ≡ length c.args.store.now)
fits c =
    let g = c in
    let a = g.args in
    let l = c.loop-k in
    putting_fits a.m _ a.base a.kc.now a.store.now c.ceiling-j.ensures.0 g.requires.0 l.store l.k-index l.begins l.line l.turn l.invariant (omega arith) g.requires.3

pub loop-k-init : goal.loop-k-init
loop-k-init c =
    let g = c in
    let a = g.args in
    putting_first a.m _ a.base a.kc.now a.store.now c.ceiling-j.ensures.0 g.requires.0

pub put_placeholder-requires : goal.put_placeholder-requires
put_placeholder-requires c = let f = fits (goal.at.put_placeholder-requires c).In-loop-k in (f.0, f.1)

pub overflow_add-begins : goal.overflow_add-begins
overflow_add-begins c = let f = fits (goal.at.overflow_add-begins c).In-loop-k in omega (arith, f.1, f.2)

pub loop-k-preserved : goal.loop-k-preserved
loop-k-preserved c =
    let g = c in
    let a = g.args in
    let l = c.loop-k in
    let u = c.ceiling-j.ensures.0 in
    let h : l.k-index < length a.kc.now = omega arith in
    elim c.if-line-m.branch [
      | then-line-m w ↦
          rw (w.begins-is, w.line-is, w.turn-is)
          (putting_turn a.m _ a.base a.kc.now a.store.now u g.requires.0 l.store l.k-index l.begins l.line l.turn l.invariant h _ _ c.symbols_until-i.ensures c.put_placeholder.ensures w.if-line-m.true)
      | else-line-m w ↦
          rw (w.begins-is, w.line-is, w.turn-is)
          (putting_next a.m _ a.base a.kc.now a.store.now u g.requires.0 l.store l.k-index l.begins l.line l.turn l.invariant h _ _ c.symbols_until-i.ensures c.put_placeholder.ensures
          (omega (arith, w.if-line-m.false, l.invariant.low)))
    ]
