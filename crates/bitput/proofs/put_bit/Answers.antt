-- `bitput::put_bit` meets its contract. Assumes nothing.
use native.Mathlib.Omega.{arith}
use Rattle.rules.specs.Bits.{digits}
use Rattle.bits.proofs.BitLaws.{length_digits}
use Rattle.bitput.proofs.BytePart.{stream_part}
use Rattle.bitput.proofs.put_bit.Goals as goal

pub returns : goal.returns
returns c =
    let s = c in
    stream_part s.args.stream.now s.args.at s.args.bit c.with_bit.result (digits 1 s.args.y) s.requires.0 (omega (arith, length_digits 1 s.args.y)) c.with_bit.ensures
