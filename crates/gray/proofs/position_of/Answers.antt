-- `gray::position_of` meets its contract. Assumes nothing.
use Prim.Native.Nat.{◌<◌, ◌^◌}
use mathlib.Core.Path.{◌≡◌}
use native.Mathlib.Omega.{arith}
use lib.IntN.{nat_abs}
use mir.Syntax.{w32}
use mir.ValLaws.{to_z-of_z}
use Rattle.gray.proofs.Signs.{tested}
use Rattle.gray.proofs.GrayLaws.{position_below, position_above, small_power}
use Rattle.gray.proofs.position_of.Goals as goal

pub overflow_add-result : goal.overflow_add-result
overflow_add-result c =
    let z = c.args.c in
    let e : c.magnitude-m.result ≡ nat_abs z = rw (to_z-of_z w32 z c.ranges.c) at c.magnitude-m.ensures in
    let l : nat_abs z < 2 ^ c.args.bits = c.requires.1 in
    record { fits = omega (arith, c.power.ensures, small_power c.args.bits c.requires.0) }

pub overflow_sub-result-else-c-lt0-2 : goal.overflow_sub-result-else-c-lt0-2
overflow_sub-result-else-c-lt0-2 c =
    let z = c.args.c in
    let e : c.magnitude-m.result ≡ nat_abs z = rw (to_z-of_z w32 z c.ranges.c) at c.magnitude-m.ensures in
    let l : nat_abs z < 2 ^ c.args.bits = c.requires.1 in
    omega (arith, c.power-else-c-lt0.ensures)

pub returns-then-c-lt0 : goal.returns-then-c-lt0
returns-then-c-lt0 c =
    let z = c.args.c in
    let f = c.ranges.c in
    let e : c.magnitude-m.result ≡ nat_abs z = rw (to_z-of_z w32 z f) at c.magnitude-m.ensures in
    rw (e, c.power.ensures) (position_below c.args.bits z (tested z f c.if-c-lt0.true))

pub returns-else-c-lt0 : goal.returns-else-c-lt0
returns-else-c-lt0 c =
    let z = c.args.c in
    let f = c.ranges.c in
    let e : c.magnitude-m.result ≡ nat_abs z = rw (to_z-of_z w32 z f) at c.magnitude-m.ensures in
    rw (e, c.power-else-c-lt0.ensures) (position_above c.args.bits z (tested z f c.if-c-lt0.false))
