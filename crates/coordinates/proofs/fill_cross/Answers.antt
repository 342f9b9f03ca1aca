-- `coordinates::fill_cross` meets its contract. Assumes nothing.
use mathlib.Core.Path.{◌∙◌}
use native.Mathlib.Omega.{arith}
use Rattle.coordinates.proofs.Entries.{Sizes, sizes}
use Rattle.coordinates.proofs.RowLaws.{rows_odd}
use native.Mathlib.Omega.{arith}
use Rattle.coordinates.proofs.fill_cross.Goals as goal
use Rattle.coordinates.proofs.fill_cross.Goals.{After-power-s}

-- the sizes of the rows
step : (c : After-power-s) → Sizes c.args.n c.power-s.result
step c = sizes _ _ c.requires.2 c.requires.3 c.power-s.ensures

pub overflow_mul-s : goal.overflow_mul-s
overflow_mul-s c = record { fits = omega (arith, (step (goal.at.overflow_mul-s c).After-power-s).most) }

pub overflow_sub-s : goal.overflow_sub-s
overflow_sub-s c = omega (arith, (step (goal.at.overflow_sub-s c).After-power-s).least)

pub fill_upper-requires : goal.fill_upper-requires
fill_upper-requires c =
    let g = c in
    let z = step (goal.at.fill_upper-requires c).After-power-s in
    (g.requires.0.long, g.requires.1, omega (arith, g.requires.3), omega (arith, g.requires.3), z.most, omega (arith, z.upper), omega (arith, z.least))

pub fill_upper-requires-2 : goal.fill_upper-requires-2
fill_upper-requires-2 c =
    let g = c in
    let z = step (goal.at.fill_upper-requires-2 c).After-power-s in
    (c.fill_upper.ensures.long ∙ g.requires.0.long, g.requires.1, omega (arith, g.requires.3), omega (arith, g.requires.3), z.most, omega (arith, z.upper), omega (arith, z.least))

pub fill_lower-requires : goal.fill_lower-requires
fill_lower-requires c =
    let g = c in
    let z = step (goal.at.fill_lower-requires c).After-power-s in
    (c.fill_upper-2.ensures.long ∙ c.fill_upper.ensures.long ∙ g.requires.0.long, g.requires.1, omega (arith, g.requires.3), omega (arith, g.requires.3), z.most, omega (arith, z.lower), omega (arith, z.least))

pub overflow_mul-s-2 : goal.overflow_mul-s-2
overflow_mul-s-2 c = record { fits = omega (arith, (step (goal.at.overflow_mul-s-2 c).After-power-s).most) }

pub overflow_sub-s-2 : goal.overflow_sub-s-2
overflow_sub-s-2 c = omega (arith, (step (goal.at.overflow_sub-s-2 c).After-power-s).least)

pub fill_lower-requires-2 : goal.fill_lower-requires-2
fill_lower-requires-2 c =
    let g = c in
    let z = step (goal.at.fill_lower-requires-2 c).After-power-s in
    (c.fill_lower.ensures.long ∙ c.fill_upper-2.ensures.long ∙ c.fill_upper.ensures.long ∙ g.requires.0.long, g.requires.1, omega (arith, g.requires.3), omega (arith, g.requires.3), z.most, omega (arith, z.lower), omega (arith, z.least))

pub returns : goal.returns
returns c =
    let g = c in
    let f = c.factor-f in
    let s = c.power-s in
    rows_odd g.args.n s.result f.result s.ensures f.ensures g.args.t.now _ _ _ _ g.requires.2 g.requires.3 g.requires.0
    c.fill_upper.ensures c.fill_upper-2.ensures c.fill_lower.ensures c.fill_lower-2.ensures
