-- `exchange::pass_pairs` meets its contract. Assumes nothing.
use Prim.Native.Nat.{◌+◌, ◌*◌, ◌<◌}
use mathlib.Core.Path.{◌≡◌}
use native.Mathlib.Omega.{arith}
use Rattle.exchange.proofs.Groups.{passes_then, fits, fits_two, two_at, two_passes}
use Rattle.exchange.proofs.pass_pairs.Goals as goal

pub overflow_add-second : goal.overflow_add-second
overflow_add-second c =
    let a = c.args in
    let l = c.loop-i in
    let near : a.from.p + 2 * l.i < a.e = omega (arith, l.invariant.0.to) in
    omega (arith, (fits a.emitter a.m a.b a.e l.store l.cells (a.from.p + 2 * l.i) l.d l.at l.last l.invariant.0 near).2)

pub next_delay-next-requires : goal.next_delay-next-requires
next_delay-next-requires c =
    let a = c.args in
    let l = c.loop-i in
    let near : a.from.p + 2 * l.i < a.e = omega (arith, l.invariant.0.to) in
    let f = fits a.emitter a.m a.b a.e l.store l.cells (a.from.p + 2 * l.i) l.d l.at l.last l.invariant.0 near in
    (f.0, f.1)

pub exchange_two-last-requires : goal.exchange_two-last-requires
exchange_two-last-requires c =
    let a = c.args in
    let l = c.loop-i in
    let near : a.from.p + 2 * l.i + 1 < a.e = omega (arith, l.invariant.0.to) in
    let next = c.next_delay-next in
    let f = fits_two a.emitter a.m a.b a.e l.store l.cells (a.from.p + 2 * l.i) l.d l.at l.last l.invariant.0 near next.result next.ensures in
    (omega (arith, f.0, f.2), omega (arith, f.0, f.2), f.3)

pub next_delay-d-requires : goal.next_delay-d-requires
next_delay-d-requires c =
    let a = c.args in
    let l = c.loop-i in
    let near : a.from.p + 2 * l.i + 1 < a.e = omega (arith, l.invariant.0.to) in
    let next = c.next_delay-next in
    let f = fits_two a.emitter a.m a.b a.e l.store l.cells (a.from.p + 2 * l.i) l.d l.at l.last l.invariant.0 near next.result next.ensures in
    (f.0, f.1)

pub overflow_add-at : goal.overflow_add-at
overflow_add-at c =
    let a = c.args in
    let l = c.loop-i in
    let near : a.from.p + 2 * l.i + 1 < a.e = omega (arith, l.invariant.0.to) in
    let next = c.next_delay-next in
    omega (arith, (fits_two a.emitter a.m a.b a.e l.store l.cells (a.from.p + 2 * l.i) l.d l.at l.last l.invariant.0 near next.result next.ensures).2)

pub loop-i-preserved : goal.loop-i-preserved
loop-i-preserved c =
    let a = c.args in
    let l = c.loop-i in
    let near : a.from.p + 2 * l.i + 1 < a.e = omega (arith, l.invariant.0.to) in
    let next = c.next_delay-next in
    let two : a.from.p + 2 * (l.i + 1) ≡ a.from.p + 2 * l.i + 2 = omega arith in
    let x = c.exchange_two-last in
    rw two (
      two_at a.emitter a.m a.b a.e l.store l.cells (a.from.p + 2 * l.i) l.d l.at l.last l.invariant.0 near next.result next.ensures _ _ c.next_delay-d.result x.result x.ensures.came x.ensures.stored x.ensures.sent c.next_delay-d.ensures,
      passes_then _ _ _ _ _ _ _ _ _ _ _ _ _ _ _ _ l.invariant.1 (two_passes a.emitter a.m a.b a.e l.store l.cells (a.from.p + 2 * l.i) l.d l.at l.last l.invariant.0 near next.result next.ensures _ _ c.next_delay-d.result x.result x.ensures.came x.ensures.stored x.ensures.sent),
    )
