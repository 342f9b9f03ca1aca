-- `gray::bits_at` meets its contract: the bits at a position are those at the wider position among seven. Assumes nothing.
use Prim.Native.Nat.{◌-◌}
use mathlib.Core.Path.{◌∙◌}
use native.Mathlib.Omega.{arith}
use native.Mathlib.Nat.{mul-pos}
use lib.Pow.{pow_pos}
use Rattle.gray.proofs.PositionLaws.{even_lt, even_same, odd_lt, odd_same}
use Rattle.gray.proofs.GrayLaws.{small_power}
use Rattle.gray.proofs.bits_at.Goals as goal

pub overflow_mul-p : goal.overflow_mul-p
overflow_mul-p c =
    let s = c in
    rw c.power-wide.ensures record { fits = omega (arith, even_lt s.args.bits s.args.p s.requires.0 s.requires.1 c.if-p-eq0.true) }

pub bits7-requires : goal.bits7-requires
bits7-requires c =
    let s = c in
    rw c.power-wide.ensures (even_lt s.args.bits s.args.p s.requires.0 s.requires.1 c.if-p-eq0.true)

pub overflow_add-p : goal.overflow_add-p
overflow_add-p c =
    let s = c in
    record { fits = omega (arith, s.requires.1, small_power s.args.bits s.requires.0) }

pub overflow_mul-p-else-p-eq0 : goal.overflow_mul-p-else-p-eq0
overflow_mul-p-else-p-eq0 c =
    let s = c in
    rw c.power-wide.ensures record { fits = omega (arith, odd_lt s.args.bits s.args.p s.requires.0 s.requires.1 c.if-p-eq0.false) }

pub overflow_sub-p : goal.overflow_sub-p
overflow_sub-p c =
    let s = c in
    rw c.power-wide.ensures (mul-pos (omega arith) (pow_pos (7 - s.args.bits)))

pub bits7-requires-else-p-eq0 : goal.bits7-requires-else-p-eq0
bits7-requires-else-p-eq0 c =
    let s = c in
    rw c.power-wide.ensures (odd_lt s.args.bits s.args.p s.requires.0 s.requires.1 c.if-p-eq0.false)

pub returns-then-p-eq0 : goal.returns-then-p-eq0
returns-then-p-eq0 c =
    let s = c in
    c.bits7.ensures ∙ rw c.power-wide.ensures (even_same s.args.bits s.args.p s.requires.0 s.requires.1 c.if-p-eq0.true)

pub returns-else-p-eq0 : goal.returns-else-p-eq0
returns-else-p-eq0 c =
    let s = c in
    c.bits7-else-p-eq0.ensures ∙ rw c.power-wide.ensures (odd_same s.args.bits s.args.p s.requires.0 s.requires.1 c.if-p-eq0.false)
