-- `byteexchange::pass_pairs` meets its contract. As many pairs are passed as are counted. Assumes nothing.
use Prim.Native.Nat.{◌+◌, ◌<◌}
use native.Mathlib.Omega.{arith}
use Rattle.bytecells.specs.Octets.{cells_of}
use Rattle.bytecells.proofs.OctetLaws.{whole_length}
use Rattle.exchange.proofs.Groups.{passes_then, fits, fits_two, two_at, two_passes}
use Rattle.byteexchange.proofs.Puts.{read_back}
use Rattle.byteexchange.proofs.pass_pairs.Goals as goal

pub overflow_add-second : goal.overflow_add-second
overflow_add-second c =
    let a = c.args in
    let l = c.loop in
    let t = l.to in
    let near : t.p < a.e = omega arith in
    omega (arith, (fits a.emitter a.m a.b a.e (cells_of l.store) l.cells t.p t.d t.at t.last l.invariant.2 near).2, whole_length l.store l.invariant.1)

pub next_delay-next-requires : goal.next_delay-next-requires
next_delay-next-requires c =
    let a = c.args in
    let l = c.loop in
    let t = l.to in
    let near : t.p < a.e = omega arith in
    let f = fits a.emitter a.m a.b a.e (cells_of l.store) l.cells t.p t.d t.at t.last l.invariant.2 near in
    (f.0, f.1)

pub exchange_two-newest-requires : goal.exchange_two-newest-requires
exchange_two-newest-requires c =
    let a = c.args in
    let l = c.loop in
    let t = l.to in
    let pair : t.p + 1 < a.e = omega arith in
    let next = c.next_delay-next in
    let f = fits_two a.emitter a.m a.b a.e (cells_of l.store) l.cells t.p t.d t.at t.last l.invariant.2 pair next.result next.ensures in
    let long = whole_length l.store l.invariant.1 in
    (l.invariant.1, omega (arith, f.0, f.2, long), omega (arith, f.0, f.2, long), f.3)

pub next_delay-requires : goal.next_delay-requires
next_delay-requires c =
    let a = c.args in
    let l = c.loop in
    let t = l.to in
    let pair : t.p + 1 < a.e = omega arith in
    let next = c.next_delay-next in
    let f = fits_two a.emitter a.m a.b a.e (cells_of l.store) l.cells t.p t.d t.at t.last l.invariant.2 pair next.result next.ensures in
    (f.0, f.1)

pub overflow_add-to-in-loop : goal.overflow_add-to-in-loop
overflow_add-to-in-loop c =
    let a = c.args in
    let l = c.loop in
    let t = l.to in
    let pair : t.p + 1 < a.e = omega arith in
    let next = c.next_delay-next in
    omega (arith, (fits_two a.emitter a.m a.b a.e (cells_of l.store) l.cells t.p t.d t.at t.last l.invariant.2 pair next.result next.ensures).2, whole_length l.store l.invariant.1)

pub loop-preserved : goal.loop-preserved
loop-preserved c =
    let a = c.args in
    let l = c.loop in
    let t = l.to in
    let pair : t.p + 1 < a.e = omega arith in
    let next = c.next_delay-next in
    let x = c.exchange_two-newest in
    let put = read_back _ _ x.ensures.stored in (
      omega arith,
      put.1,
      two_at a.emitter a.m a.b a.e (cells_of l.store) l.cells t.p t.d t.at t.last l.invariant.2 pair next.result next.ensures _ _ c.next_delay.result x.result x.ensures.came put.0 x.ensures.sent c.next_delay.ensures,
      passes_then _ _ _ _ _ _ _ _ _ _ _ _ _ _ _ _ l.invariant.3 (two_passes a.emitter a.m a.b a.e (cells_of l.store) l.cells t.p t.d t.at t.last l.invariant.2 pair next.result next.ensures _ _ c.next_delay.result x.result x.ensures.came put.0 x.ensures.sent),
    )
