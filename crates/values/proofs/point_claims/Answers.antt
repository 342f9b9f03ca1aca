-- `values::point_claims` meets its contract: the claim is the law `point_claims`. Assumes nothing.
use Rattle.values.proofs.ValueLaws.{point_claims}
use Rattle.values.proofs.point_claims.Goals as goal

pub returns : goal.returns
returns c = point_claims
