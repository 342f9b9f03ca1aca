-- `delay::step` meets its contract. Assumes nothing.
use mathlib.Core.Path.{◌≡◌}
use Prim.Native.Nat.{◌-◌}
use Rattle.rules.specs.Places.{moved, oldest}
use Rattle.exchange.specs.Exchange.{end_delay}
use native.Mathlib.Omega.{arith}
use lib.ListN.{length, set}
use Rattle.delay.proofs.Steps.{stepped, still}
use Rattle.exchange.proofs.Groups.{deep}
use Rattle.delay.proofs.step.Goals as goal

pub returns-then-places-eq0 : goal.returns-then-places-eq0
returns-then-places-eq0 c =
    let a = c.args in
    let r : (a.store.now ≡ moved (end_delay a.emitter a.m) (length a.cells.now) a.store.now a.cells.now)
    × (a.cells.now ≡ oldest (end_delay a.emitter a.m) (length a.cells.now) a.store.now a.cells.now) =
    still _ _ _ (omega (arith, c.requires.3, c.if-places-eq0.true))
    in
    record { stored = r.0; sent = r.1 }

pub pass-last-requires : goal.pass-last-requires
pass-last-requires c =
    let g = c in
    (deep g.args.emitter g.args.m (length g.args.cells.now) g.requires.0 (omega (arith, g.requires.3, c.if-places-eq0.false)), g.requires.1, g.requires.2, omega (arith, g.requires.3, g.requires.4))

pub returns : goal.returns
returns c =
    let g = c in
    let a = c.args in
    let r : (set c.shift.new.store (a.places - 1) c.pass-last.result ≡ moved (end_delay a.emitter a.m) (length a.cells.now) a.store.now a.cells.now)
    × (c.pass-last.new.cells ≡ oldest (end_delay a.emitter a.m) (length a.cells.now) a.store.now a.cells.now) =
    stepped _ _ _ _ _ _ _ c.pass-last.ensures g.requires.3 g.requires.4 (omega (arith, c.if-places-eq0.false)) _ c.shift.ensures
    in
    record { stored = r.0; sent = r.1 }
