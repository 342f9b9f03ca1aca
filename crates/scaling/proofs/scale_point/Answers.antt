-- `scaling::scale_point` meets its contract: both coordinates times the one factor. Assumes nothing.
use native.Mathlib.Omega.{arith}
use mathlib.Core.Path.{ap, ◌∙◌}
use lib.IntN.{ℤ}
use lib.Ieee.{Float, binary32, mul, of_int}
use Rattle.gray.proofs.Signs.{known}
use Rattle.points.proofs.Machine.{small_fits}
use Rattle.scaling.specs.Scale.{scaled}
use Rattle.scaling.proofs.scale_point.Goals as goal

pub returns : goal.returns
unfolding scaled
returns c =
    let s = c in
    let p = s.args.p in
    let f = c.factor-f.ensures in
    let by : ℤ → Float = λ (z : ℤ). mul binary32 (of_int binary32 z) c.factor-f.result in
    let ex = known by p.x (small_fits p.x (omega (arith, s.requires.2))) c.scale-x.ensures ∙ ap (mul binary32 (of_int binary32 p.x)) f in
    let ey = known by p.y (small_fits p.y (omega (arith, s.requires.3))) c.scale-y.ensures ∙ ap (mul binary32 (of_int binary32 p.y)) f in
    λ i. record { x = ex i; y = ey i }
