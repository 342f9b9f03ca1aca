-- `runs::plan_claims` meets its contract: the claim is the law `accepted_claims`. Assumes nothing.
use Rattle.runs.proofs.Claims.{accepted_claims}
use Rattle.runs.proofs.plan_claims.Goals as goal

pub returns : goal.returns
returns c = accepted_claims
