-- `exchange::pass_one` meets its contract. Assumes nothing.
use Prim.Native.Nat.{◌<◌}
use native.Mathlib.Omega.{arith}
use Rattle.exchange.proofs.Groups.{fits, one_at, one_passes}
use Rattle.exchange.proofs.pass_one.Goals as goal

pub exchange_one-newest-requires : goal.exchange_one-newest-requires
exchange_one-newest-requires c =
    let g = c in
    let a = g.args in
    let near : a.from.p < a.e = omega (arith, g.requires.2, c.if-k-p.false) in
    let f = fits a.emitter a.m a.b a.e a.store.now a.cells.now a.from.p a.from.d a.from.at a.from.last g.requires.0 near in
    (omega (arith, f.0, f.2), f.3)

pub next_delay-next-requires : goal.next_delay-next-requires
next_delay-next-requires c =
    let g = c in
    let a = g.args in
    let near : a.from.p < a.e = omega (arith, g.requires.2, c.if-k-p.false) in
    let f = fits a.emitter a.m a.b a.e a.store.now a.cells.now a.from.p a.from.d a.from.at a.from.last g.requires.0 near in
    (f.0, f.1)

pub overflow_add-after : goal.overflow_add-after
overflow_add-after c =
    let g = c in
    let a = g.args in
    let near : a.from.p < a.e = omega (arith, g.requires.2, c.if-k-p.false) in
    let f = fits a.emitter a.m a.b a.e a.store.now a.cells.now a.from.p a.from.d a.from.at a.from.last g.requires.0 near in
    omega (arith, f.2)

pub returns : goal.returns
returns c =
    let g = c in
    let a = g.args in
    let near : a.from.p < a.e = omega (arith, g.requires.2, c.if-k-p.false) in
    let x = c.exchange_one-newest in record {
      at = (
        one_at a.emitter a.m a.b a.e a.store.now a.cells.now a.from.p a.from.d a.from.at a.from.last g.requires.0 near _ _ c.next_delay-next.result x.result x.ensures.came x.ensures.stored x.ensures.sent c.next_delay-next.ensures,
        g.requires.1,
      );
      passed = one_passes a.emitter a.m a.b a.e a.store.now a.cells.now a.from.p a.from.d a.from.at a.from.last g.requires.0 near _ _ c.next_delay-next.result x.result x.ensures.came x.ensures.stored x.ensures.sent;
    }
