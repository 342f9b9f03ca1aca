-- `byteexchange::pass_one` meets its contract. Assumes nothing.
use Prim.Native.Nat.{◌<◌}
use native.Mathlib.Omega.{arith}
use Rattle.bytecells.specs.Octets.{cells_of}
use Rattle.bytecells.proofs.OctetLaws.{whole_length}
use Rattle.exchange.proofs.Groups.{passes_none, fits, one_at, one_passes}
use Rattle.byteexchange.proofs.Puts.{read_back}
use Rattle.byteexchange.proofs.pass_one.Goals as goal

pub returns-then-k-p : goal.returns-then-k-p
returns-then-k-p c = record { at = (c.requires.0, c.requires.1, c.if-k-p.true); passed = passes_none _ _ _ _ _ _ }

pub exchange_one-newest-requires : goal.exchange_one-newest-requires
exchange_one-newest-requires c =
    let g = c in
    let a = g.args in
    let near : a.from.p < a.e = omega (arith, g.requires.3, c.if-k-p.false) in
    let f = fits a.emitter a.m a.b a.e (cells_of a.store.now) a.cells.now a.from.p a.from.d a.from.at a.from.last g.requires.1 near in
    (g.requires.0, omega (arith, f.0, f.2, whole_length a.store.now g.requires.0), f.3)

pub next_delay-next-requires : goal.next_delay-next-requires
next_delay-next-requires c =
    let g = c in
    let a = g.args in
    let near : a.from.p < a.e = omega (arith, g.requires.3, c.if-k-p.false) in
    let f = fits a.emitter a.m a.b a.e (cells_of a.store.now) a.cells.now a.from.p a.from.d a.from.at a.from.last g.requires.1 near in
    (f.0, f.1)

pub overflow_add-after : goal.overflow_add-after
overflow_add-after c =
    let g = c in
    let a = g.args in
    let near : a.from.p < a.e = omega (arith, g.requires.3, c.if-k-p.false) in
    let f = fits a.emitter a.m a.b a.e (cells_of a.store.now) a.cells.now a.from.p a.from.d a.from.at a.from.last g.requires.1 near in
    omega (arith, f.2, whole_length a.store.now g.requires.0)

pub returns : goal.returns
returns c =
    let g = c in
    let a = g.args in
    let near : a.from.p < a.e = omega (arith, g.requires.3, c.if-k-p.false) in
    let x = c.exchange_one-newest in
    let put = read_back _ _ x.ensures.stored in record {
      at = (
        put.1,
        one_at a.emitter a.m a.b a.e (cells_of a.store.now) a.cells.now a.from.p a.from.d a.from.at a.from.last g.requires.1 near _ _ c.next_delay-next.result x.result x.ensures.came put.0 x.ensures.sent c.next_delay-next.ensures,
        g.requires.2,
      );
      passed = one_passes a.emitter a.m a.b a.e (cells_of a.store.now) a.cells.now a.from.p a.from.d a.from.at a.from.last g.requires.1 near _ _ c.next_delay-next.result x.result x.ensures.came put.0 x.ensures.sent;
    }
