-- `bitunfill::below` meets its contract. Assumes nothing.
use mathlib.Core.Path.{refl}
use native.Mathlib.Omega.{arith}
use Rattle.bits.proofs.Windows.{one_shl}
use Rattle.bitunfill.proofs.below.Goals as goal

pub returns : goal.returns
returns c = rw (one_shl c.args.bit 64 (omega arith), c.byte_at.ensures) refl
