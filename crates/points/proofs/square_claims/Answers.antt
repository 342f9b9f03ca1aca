-- `points::square_claims` meets its contract: the claim is the law `square_claims`. Assumes nothing.
use Rattle.points.proofs.Squares.{square_claims}
use Rattle.points.proofs.square_claims.Goals as goal

pub returns : goal.returns
returns c = square_claims
