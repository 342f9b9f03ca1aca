-- `bytedelay::step` meets its contract. Assumes nothing.
use mathlib.Core.Path.{◌≡◌}
use native.Mathlib.Omega.{arith}
use Rattle.bytecells.specs.Octets.{bytes_of, cells_of}
use Rattle.rules.specs.Places.{moved, oldest}
use Rattle.exchange.specs.Exchange.{end_delay}
use lib.ListN.{length}
use Rattle.exchange.proofs.Groups.{deep}
use Rattle.bytedelay.proofs.ByteSteps.{byte_still, byte_shifted, byte_stepped}
use Rattle.bytedelay.proofs.step.Goals as goal

pub returns-then-places-eq0 : goal.returns-then-places-eq0
returns-then-places-eq0 c =
    let g = c in
    let a = c.args in
    let r : (a.store.now ≡ bytes_of (moved (end_delay a.emitter a.m) (length a.cells.now) (cells_of a.store.now) a.cells.now))
    × (a.cells.now ≡ oldest (end_delay a.emitter a.m) (length a.cells.now) (cells_of a.store.now) a.cells.now) =
    byte_still _ _ _ g.requires.0 (omega (arith, g.requires.4, c.if-places-eq0.true))
    in
    record { stored = r.0; sent = r.1 }

pub pass-last-requires : goal.pass-last-requires
pass-last-requires c =
    let g = c in
    (g.requires.0, deep g.args.emitter g.args.m (length g.args.cells.now) g.requires.1 (omega (arith, g.requires.4, c.if-places-eq0.false)), g.requires.2, g.requires.3, omega (arith, g.requires.4, g.requires.5))

pub put-requires : goal.put-requires
put-requires c =
    let g = c in
    let z = byte_shifted _ _ _ g.requires.0 _ _ _ _ c.pass-last.ensures.passed _ c.shift.ensures in
    (z.0, omega (arith, z.1, g.requires.5, c.if-places-eq0.false))

pub returns : goal.returns
returns c =
    let g = c in
    let a = c.args in
    let r : (c.put.new.store ≡ bytes_of (moved (end_delay a.emitter a.m) (length a.cells.now) (cells_of a.store.now) a.cells.now))
    × (c.pass-last.new.cells ≡ oldest (end_delay a.emitter a.m) (length a.cells.now) (cells_of a.store.now) a.cells.now) =
    byte_stepped _ _ _ g.requires.0 _ _ _ _ c.pass-last.ensures.passed _ c.shift.ensures g.requires.4 g.requires.5 (omega (arith, c.if-places-eq0.false)) _ c.put.ensures
    in
    record { stored = r.0; sent = r.1 }
