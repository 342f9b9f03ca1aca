-- `records::number_at` meets its contract. Assumes nothing.
use mathlib.Core.Path.{ap₂}
use Prim.Native.Nat.{ℕ, ◌+◌, ◌*◌}
use native.Mathlib.Omega.{arith}
use Rattle.rules.specs.Plan.{number}
use Rattle.records.proofs.number_at.Goals as goal

pub returns : goal.returns
unfolding number
returns c =
    let x = c.octet.ensures in
    let y = c.octet-2.ensures in
    (ap₂ (λ (a b : ℕ). a * 256 + b) x.0 y.0, omega (arith, x.1, y.1))
