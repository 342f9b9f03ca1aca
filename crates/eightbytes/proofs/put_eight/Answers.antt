-- `eightbytes::put_eight` meets its contract. Assumes nothing.
use Prim.Native.Nat.{◌+◌, ◌*◌, ◌/◌, ◌^◌}
use mathlib.Core.Path.{ap, ◌∙◌}
use native.Mathlib.Omega.{arith}
use lib.Seq.{sets}
use Rattle.rules.specs.Bits.{stream_bits}
use Rattle.bits.proofs.BitLaws.{digits_mod}
use Rattle.eightbytes.proofs.Puts.{put_more}
use Rattle.eightbytes.proofs.put_eight.Goals as goal

pub returns : goal.returns
returns c =
    let g = c.args in
    let first = c.put_four in
    let last = c.put_four-2 in
    let s = stream_bits g.stream.now in
    put_more s (stream_bits first.new.stream) (stream_bits last.new.stream) (g.at * 8) ((g.at + 4) * 8) 32 32 g.v (omega arith)
    (first.ensures ∙ ap (sets s (g.at * 8)) (digits_mod 32 g.v)) (last.ensures ∙ ap (sets (stream_bits first.new.stream) ((g.at + 4) * 8)) (digits_mod 32 (g.v / 2 ^ 32)))
