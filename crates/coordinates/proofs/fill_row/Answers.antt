-- `coordinates::fill_row` meets its contract. Assumes nothing.
use Prim.Native.Nat.{◌≤◌}
use mathlib.Core.Path.{ap, ◌∙◌}
use native.Mathlib.Omega.{arith}
use Rattle.gray.proofs.GrayLaws.{small_power}
use Rattle.coordinates.specs.Table.{times}
use Rattle.coordinates.proofs.Entries.{read, read_small}
use Rattle.coordinates.proofs.Writing.{written_next}
use Rattle.coordinates.proofs.fill_row.Goals as goal
use Rattle.coordinates.proofs.fill_row.Goals.{After-power-p}

-- the row has at most 128 numbers
short : (c : After-power-p) → c.power-p.result ≤ 128
short c = omega (arith, c.power-p.ensures, small_power c.args.bits c.requires.2)

pub scale-requires : goal.scale-requires
scale-requires c = let g = c in read_small g.args.w.now g.requires.1 g.args.bits c.power-p.result c.loop-i.i g.requires.2 c.power-p.ensures c.loop-i-test.true

pub loop-i-preserved : goal.loop-i-preserved
loop-i-preserved c =
    let g = c in
    let power = c in
    let l = c.loop-i in
    written_next _ _ _ l.i l.t l.invariant _ (c.scale.ensures ∙ ap (times g.args.f) (read g.args.w.now g.requires.1 g.args.bits power.power-p.result l.i g.requires.2 power.power-p.ensures c.loop-i-test.true)) (omega (arith, short (goal.at.loop-i-preserved c).After-power-p, g.requires.0, g.requires.3))
