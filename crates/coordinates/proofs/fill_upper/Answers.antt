-- `coordinates::fill_upper` meets its contract. Assumes nothing.
use mathlib.Core.Path.{◌≡◌, ap, ◌∙◌}
use Prim.Native.Nat.{◌<◌}
use native.Mathlib.Omega.{arith}
use mir.Syntax.{w32}
use mir.Val.{to_z, of_z}
use mir.ValLaws.{to_z_pos}
use lib.IntN.{pos, nat_abs}
use Rattle.gray.specs.Gray.{gray}
use Rattle.gray.proofs.GrayLaws.{gray_in}
use Rattle.points.specs.declared.Point.{Point}
use Rattle.points.specs.Points.{cross}
use Rattle.points.proofs.Machine.{small_fits, through}
use Rattle.coordinates.specs.Table.{times}
use Rattle.coordinates.proofs.Entries.{read, small_x}
use Rattle.coordinates.proofs.Writing.{written_next}
use Rattle.coordinates.proofs.fill_upper.Goals as goal
use Rattle.coordinates.proofs.fill_upper.Goals.{After-crossed}

-- the coordinate is small
small : (c : After-crossed) → nat_abs (cross c.args.s (gray c.args.bits c.loop-k.k) (pos c.args.q)).x < 128
small c =
    let a = c.args in
    let k = c.loop-k.k in
    small_x a.s c.requires.4 (gray a.bits k) (pos a.q) (omega (arith, gray_in a.bits k, c.requires.5)) c.requires.6

-- it is what was reckoned
coordinate : (c : After-crossed) → to_z w32 (of_z w32 c.crossed.result.x) ≡ (cross c.args.s (gray c.args.bits c.loop-k.k) (pos c.args.q)).x
coordinate c =
    let a = c.args in
    let k = c.loop-k.k in
    let v = read a.w.now c.requires.1 a.bits c.power-p.result k c.requires.2 c.power-p.ensures c.loop-k-test.true in
    let z = to_z_pos w32 a.q (omega (arith, c.requires.4, c.requires.6)) in
    through (small_fits (cross a.s (gray a.bits k) (pos a.q)).x (omega (arith, small c))) (ap (λ (p : Point). p.x) (c.crossed.ensures ∙ (λ j. cross a.s (v j) (z j))))

pub crossed-requires : goal.crossed-requires
crossed-requires c =
    let a = c.args in
    let v = read a.w.now c.requires.1 a.bits c.power-p.result c.loop-k.k c.requires.2 c.power-p.ensures c.loop-k-test.true in
    let z = to_z_pos w32 a.q (omega (arith, c.requires.4, c.requires.6)) in
    (c.requires.4, rw v (omega (arith, gray_in a.bits c.loop-k.k, c.requires.5)), rw z c.requires.6)

pub scale-requires : goal.scale-requires
scale-requires c = let d = (goal.at.scale-requires c).After-crossed in rw (coordinate d) (small d)

pub loop-k-preserved : goal.loop-k-preserved
loop-k-preserved c =
    let l = c.loop-k in
    written_next _ _ _ l.k l.t l.invariant _ (c.scale.ensures ∙ ap (times c.args.f) (coordinate (goal.at.loop-k-preserved c).After-crossed))
    (omega (arith, c.requires.0, c.requires.3, c.requires.4, c.requires.5, c.loop-k-test.true, c.power-p.ensures))
