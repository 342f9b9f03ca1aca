-- `coordinates::fill_odd` meets its contract. Assumes nothing.
use Prim.Native.Nat.{ℕ}
use mathlib.Core.Path.{◌≡◌, subst}
use native.Mathlib.Omega.{arith}
use Rattle.coordinates.specs.Table.{Rows}
use Rattle.coordinates.proofs.fill_odd.Goals as goal

pub returns : goal.returns
returns c = let e : c.loop-n.n ≡ 7 = omega arith in subst (λ (n : ℕ). Rows 8 n c.loop-n.t) e c.loop-n.invariant
