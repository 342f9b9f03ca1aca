-- `rows::power` meets its contract. Assumes nothing.
use Prim.Native.Nat.{◌^◌}
use mathlib.Core.Path.{◌∙◌}
use native.Mathlib.Nat.{one-mul}
use native.Mathlib.Omega.{arith}
use lib.Pow.{shl_exact}
use Rattle.rows.proofs.power.Goals as goal

pub returns : goal.returns
returns c = shl_exact 1 c.args.bits 64 (omega arith) (omega arith) ∙ one-mul (2 ^ c.args.bits)
