-- `roles::pilots_of` meets its contract. Assumes nothing.
use mathlib.Core.Path.{◌∙◌}
use native.Mathlib.Omega.{arith}
use Prim.Native.Nat.{◌+◌, ◌-◌, ◌≤◌}
use Rattle.rules.specs.Fits.{capacity}
use Rattle.roles.proofs.Eight.{eight, eight_is}
use Rattle.roles.proofs.pilots_of.Goals as goal
use Rattle.roles.proofs.pilots_of.Goals.{After-struct_known-1}

-- each distance is at most the margin of the PLC, for which there is room below L and above the PLC
room : (c : After-struct_known-1) → (c.wide-a.result ≤ c.args.d.plc_margin)
    × (c.wide-b.result ≤ c.args.d.plc_margin)
    × (c.wide-c.result ≤ c.args.d.plc_margin)
    × (c.wide-e.result ≤ c.args.d.plc_margin)
    × (c.args.d.plc_margin ≤ c.args.l)
    × (c.args.l + c.args.d.plc_width + c.args.d.plc_margin ≤ capacity)
room c =
    let f = c.requires.0 in (
      omega (arith, f.near 0 (omega arith), c.wide-a.ensures.0),
      omega (arith, f.near 1 (omega arith), c.wide-b.ensures.0),
      omega (arith, f.near 2 (omega arith), c.wide-c.ensures.0),
      omega (arith, f.near 3 (omega arith), c.wide-e.ensures.0),
      omega (arith, f.plc_low, c.requires.1),
      omega (arith, f.plc_high, f.few, c.requires.2),
    )

pub overflow_sub-result : goal.overflow_sub-result
overflow_sub-result c = omega (arith, room c)

pub overflow_sub-result-2 : goal.overflow_sub-result-2
overflow_sub-result-2 c = omega (arith, room c)

pub overflow_sub-result-3 : goal.overflow_sub-result-3
overflow_sub-result-3 c = omega (arith, room c)

pub overflow_sub-result-4 : goal.overflow_sub-result-4
overflow_sub-result-4 c = omega (arith, room c)

pub overflow_cast-result-5 : goal.overflow_cast-result-5
overflow_cast-result-5 c = omega (arith, room c)

pub overflow_cast-result-6 : goal.overflow_cast-result-6
overflow_cast-result-6 c = omega (arith, room c)

pub overflow_cast-result-7 : goal.overflow_cast-result-7
overflow_cast-result-7 c = omega (arith, room c)

pub overflow_cast-result-8 : goal.overflow_cast-result-8
overflow_cast-result-8 c = omega (arith, room c)

pub returns : goal.returns
returns c =
    let g = c in
    (λ j. eight g.args.l (g.args.l + g.args.d.plc_width - 1) (c.wide-a.ensures.0 j) (c.wide-b.ensures.0 j) (c.wide-c.ensures.0 j) (c.wide-e.ensures.0 j))
    ∙ eight_is g.args.d g.args.l g.requires.0
