-- `dataloads::cell_loads` meets its contract. The cells below p have their loads. Assumes nothing.
use native.Mathlib.Omega.{arith}
use lib.ListN.{length}
use Rattle.rules.specs.Plan.{plan_of}
use Rattle.rules.specs.Frame.{Frame, frame_of}
use Rattle.frame.proofs.Cells.{spot_below}
use Rattle.frame.proofs.Ordered.{taken_cells}
use Rattle.dataloads.proofs.cell_loads.Goals as goal

pub bounds-profile-k : goal.bounds-profile-k
unfolding frame_of
bounds-profile-k c =
    let g = c in
    let p = c.loop-p.p in
    let F : Frame = frame_of g.args.d (plan_of g.args.plan.now) in
    omega (arith, c.wide-k.ensures.0, g.requires.1, g.requires.4 p (omega arith), spot_below F p (omega (arith, g.requires.2)))

pub returns : goal.returns
returns c =
    let g = c in
    let l = c.loop-p in
    taken_cells (frame_of g.args.d (plan_of g.args.plan.now)) g.args.kc.now g.args.profile.now l.x (length g.args.x.now) g.requires.2 g.requires.4 l.invariant.long
    (λ q h. l.invariant.below q (omega arith))
