-- `bitput::put_cell` meets its contract. Assumes nothing.
use Prim.Native.Nat.{◌+◌, ◌*◌, ◌/◌, ◌%◌, ◌^◌}
use mathlib.Core.Path.{◌≡◌, refl, sym, ap, ◌∙◌}
use native.Mathlib.Omega.{arith}
use lib.ListN.{length}
use lib.Seq.{sets}
use Rattle.rules.specs.Bits.{digits, stream_bits}
use Rattle.bits.proofs.BitLaws.{length_digits, digits_split}
use Rattle.bits.proofs.FillLaws.{sets-append}
use Rattle.bitput.proofs.put_cell.Goals as goal

pub loop-i-init : goal.loop-i-init
loop-i-init c = unfold digits in refl

pub loop-i-preserved : goal.loop-i-preserved
loop-i-preserved c =
    let w = c.loop-i in
    let g = c.args in
    let n : (g.at + (g.bit + w.i) / 8) * 8 + (g.bit + w.i) % 8 ≡ g.at * 8 + g.bit + length (digits w.i g.x) = omega (arith, length_digits w.i g.x) in
    c.put_bit.ensures
    ∙ rw (n, w.invariant) (sets-append (stream_bits g.stream.now) (g.at * 8 + g.bit) (digits w.i g.x) (digits 1 (g.x / 2 ^ w.i)))
    ∙ ap (sets (stream_bits g.stream.now) (g.at * 8 + g.bit)) (sym (digits_split w.i 1 g.x))
