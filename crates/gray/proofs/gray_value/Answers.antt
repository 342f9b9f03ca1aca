-- `gray::gray_value` meets its contract: the value at the position of the bits. Assumes nothing.
use Prim.Native.Nat.{◌<◌, ◌+◌, ◌-◌, ◌*◌, ◌^◌}
use mathlib.Core.Path.{◌≡◌, sym, ◌∙◌}
use native.Mathlib.Omega.{arith}
use lib.IntN.{pos, neg_ℤ}
use mir.Syntax.{w32}
use mir.ValLaws.{to_z-of_z, to_z_pos}
use Rattle.gray.specs.Positions.{position}
use Rattle.gray.proofs.PositionLaws.{position_lt}
use Rattle.gray.proofs.Signs.{neg_fits}
use Rattle.gray.proofs.GrayLaws.{gray_up, gray_down, small_power}
use Rattle.gray.proofs.gray_value.Goals as goal

pub overflow_mul-p : goal.overflow_mul-p
overflow_mul-p c =
    let b = c.args.bits in
    let x = c.args.x in
    let f = small_power b c.requires in
    let e = c.position-p.ensures in
    let l = position_lt b x in
    record { fits = omega arith }

pub overflow_cast-result : goal.overflow_cast-result
overflow_cast-result c =
    let b = c.args.bits in
    let x = c.args.x in
    let f = small_power b c.requires in
    let e = c.position-p.ensures in
    let l = position_lt b x in
    record { sfits = omega (arith, c.power-all.ensures) }

pub overflow_mul-p-else-p-all : goal.overflow_mul-p-else-p-all
overflow_mul-p-else-p-all c =
    let b = c.args.bits in
    let x = c.args.x in
    let f = small_power b c.requires in
    let e = c.position-p.ensures in
    let l = position_lt b x in
    record { fits = omega arith }

pub overflow_add-p : goal.overflow_add-p
overflow_add-p c =
    let b = c.args.bits in
    let x = c.args.x in
    let f = small_power b c.requires in
    let e = c.position-p.ensures in
    let l = position_lt b x in
    record { fits = omega arith }

pub overflow_cast-p : goal.overflow_cast-p
overflow_cast-p c =
    let b = c.args.bits in
    let x = c.args.x in
    let f = small_power b c.requires in
    let e = c.position-p.ensures in
    let l = position_lt b x in
    record { sfits = omega (arith, c.power-all.ensures) }

pub negated-requires : goal.negated-requires
negated-requires c =
    let b = c.args.bits in
    let x = c.args.x in
    let f = small_power b c.requires in
    let e = c.position-p.ensures in
    let l = position_lt b x in
    let m = 2 * c.position-p.result + 1 - c.power-all.result in
    let s : m < 2 ^ 31 = omega arith in
    rw (to_z_pos w32 m s) s

pub returns-then-p-all : goal.returns-then-p-all
returns-then-p-all c =
    let b = c.args.bits in
    let x = c.args.x in
    let f = small_power b c.requires in
    let e = c.position-p.ensures in
    let l = position_lt b x in
    rw (c.power-all.ensures, e)
    (to_z_pos w32 (2 ^ b - 1 - 2 * position b x) (omega arith) ∙ sym (gray_up b x (rw (e, c.power-all.ensures) at c.if-p-all.true)))

pub returns-else-p-all : goal.returns-else-p-all
returns-else-p-all c =
    let b = c.args.bits in
    let x = c.args.x in
    let f = small_power b c.requires in
    let e = c.position-p.ensures in
    let l = position_lt b x in
    let m = 2 * position b x + 1 - 2 ^ b in
    let s : m < 2 ^ 31 = omega arith in
    let n : c.negated.result ≡ neg_ℤ (pos m) = rw (c.power-all.ensures, e, to_z_pos w32 m s) at c.negated.ensures in
    rw n (to_z-of_z w32 (neg_ℤ (pos m)) (neg_fits (pos m) s) ∙ sym (gray_down b x (rw (e, c.power-all.ensures) at c.if-p-all.false)))
