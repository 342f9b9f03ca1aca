-- `bits::eight_at` meets its contract. Assumes nothing.
use native.Mathlib.Omega.{arith}
use Rattle.bits.proofs.Streams.{eight_bytes}
use Rattle.bits.proofs.eight_at.Goals as goal

pub returns : goal.returns
returns c = omega (arith, c.four_at.ensures, c.four_at-2.ensures, eight_bytes c.args.stream.now c.args.at)
