-- `bits::window` meets its contract. Assumes nothing.
use native.Mathlib.Omega.{arith}
use Rattle.bits.proofs.Streams.{four_bytes}
use Rattle.bits.proofs.window.Goals as goal

pub returns : goal.returns
returns c =
    let a = c.args in
    omega (arith, four_bytes a.stream.now a.at (omega arith) (omega arith) (omega arith) (omega arith))
