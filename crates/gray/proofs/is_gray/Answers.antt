-- `gray::is_gray` meets its contract. Assumes nothing.
use mathlib.Core.Path.{◌≡◌}
use lib.IntN.{nat_abs}
use mir.Syntax.{w32}
use mir.ValLaws.{to_z-of_z}
use Rattle.gray.proofs.GrayLaws.{is_gray_even, is_gray_odd}
use Rattle.gray.proofs.is_gray.Goals as goal

pub returns-then-m-eq0 : goal.returns-then-m-eq0
returns-then-m-eq0 c =
    let z = c.args.c in
    let e : c.magnitude-m.result ≡ nat_abs z = rw (to_z-of_z w32 z c.ranges.c) at c.magnitude-m.ensures in
    is_gray_even c.args.bits z (rw e at c.if-m-eq0.true)

pub returns : goal.returns
returns c =
    let z = c.args.c in
    let e : c.magnitude-m.result ≡ nat_abs z = rw (to_z-of_z w32 z c.ranges.c) at c.magnitude-m.ensures in
    rw (e, c.power.ensures) (is_gray_odd c.args.bits z (rw e at c.if-m-eq0.false))
