-- `points::signed_point` meets its contract. Assumes nothing.
use Rattle.points.proofs.Machine.{signed_made}
use Rattle.points.proofs.signed_point.Goals as goal

pub returns : goal.returns
returns c =
    let s = c in
    signed_made s.args.i s.args.q s.args.a s.args.b s.ranges.i s.ranges.q s.requires.0 s.requires.1 c.with_sign-x.ensures c.with_sign-y.ensures
