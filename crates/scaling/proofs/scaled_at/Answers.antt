-- `scaling::scaled_at` meets its contract: no coordinate is above 127. Assumes nothing.
use mathlib.Core.Path.{ap, ◌∙◌}
use Rattle.points.proofs.BackLaws.{covered, at_most, small_x, small_y}
use Rattle.scaling.specs.Scale.{scaled_point}
use Rattle.scaling.proofs.scaled_at.Goals as goal

pub point_at-requires : goal.point_at-requires
point_at-requires c = c.requires

pub scale_point-requires : goal.scale_point-requires
scale_point-requires c =
    let m = c.args.load in
    let v = c.args.value in
    let t = c.requires in
    ((covered m t).some, at_most m t, rw c.point_at.ensures (small_x m v t), rw c.point_at.ensures (small_y m v t))

pub returns : goal.returns
returns c = c.scale_point.ensures ∙ ap (scaled_point c.args.load) c.point_at.ensures
