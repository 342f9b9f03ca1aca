-- `bitput::with_bit` meets its contract. Assumes nothing.
use mathlib.Core.Path.{◌∙◌}
use native.Mathlib.Omega.{arith}
use Rattle.bits.proofs.BitLaws.{digits_mod}
use Rattle.bits.proofs.Windows.{one_shl, up_exact, up_small, mod_small}
use Rattle.bitput.proofs.BytePart.{with_bit}
use Rattle.bitput.proofs.with_bit.Goals as goal

pub overflow_add-result : goal.overflow_add-result
overflow_add-result c =
    let o = c.args.bit in
    let h = c.from_bit-high.ensures.1 in
    rw (one_shl o 32 (omega arith), up_exact c.from_bit-high.result 8 o 32 h (omega arith)) (omega (arith, up_small c.from_bit-high.result 8 o 16 h (omega arith), mod_small c.byte_number-n.result o 8 (omega arith)))

pub returns : goal.returns
returns c =
    let g = c.args in
    let k = c.requires in
    let h = c.from_bit-high.ensures in
    rw (one_shl g.bit 32 (omega arith), up_exact c.from_bit-high.result 8 g.bit 32 h.1 (omega arith), h.0, c.byte_number-n.ensures.0) (digits_mod 8 _ ∙ with_bit g.x g.bit g.y k)
