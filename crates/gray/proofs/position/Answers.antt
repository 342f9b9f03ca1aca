-- `gray::position` meets its contract: a position among seven bits, cut to the first of them. Assumes nothing.
use Prim.Native.Nat.{ℕ, ◌+◌, ◌-◌, ◌/◌, ◌^◌}
use mathlib.Core.Path.{◌≡◌, subst}
use native.Mathlib.Omega.{arith}
use Rattle.gray.specs.Positions.{position}
use Rattle.gray.proofs.PositionLaws.{narrower}
use Rattle.gray.proofs.position.Goals as goal

pub returns : goal.returns
returns c =
    let b = c.args.bits in
    let x = c.args.x in
    let e : b + (7 - b) ≡ 7 = omega (arith, c.requires) in
    rw c.position7.ensures (subst (λ (n : ℕ). position n x / 2 ^ (7 - b) ≡ position b x) e (narrower b (7 - b) x))
