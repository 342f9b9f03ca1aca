-- `figure::literal_places` meets its contract. Assumes nothing.
use Prim.Native.Nat.{◌*◌, ◌≤◌}
use mathlib.Core.Path.{sym, ◌∙◌}
use native.Mathlib.Nat.{mul-le-mul}
use native.Mathlib.Omega.{arith}
use Rattle.rules.specs.Fits.{capacity}
use Rattle.figure.specs.Figure.{ceiling}
use Rattle.figure.proofs.Sizes.{triangle_low, begins_by_triangle}
use Rattle.figure.proofs.literal_places.Goals as goal
use Rattle.figure.proofs.literal_places.Goals.{After-triangle}

-- the lines at J = 1
low : (c : After-triangle) → c.triangle.result ≤ capacity * capacity
low c = omega (arith, c.triangle.ensures, triangle_low c.args.m c.requires.1)

pub overflow_mul-result : goal.overflow_mul-result
overflow_mul-result c =
    omega (arith, mul-le-mul {n₁ = c.ceiling.result} {m₁ = c.triangle.result} c.ceiling.ensures.1 (low c))

pub returns : goal.returns
returns c =
    (λ i. c.ceiling.ensures.0 i * c.triangle.ensures i) ∙ sym (begins_by_triangle (ceiling c.args.n c.args.m) c.args.m)
