-- `callruns::plan_claims_calls` meets its contract: the claim is the law `accepted_claims_calls`. Assumes nothing.
use Rattle.callruns.proofs.Calls.{accepted_claims_calls}
use Rattle.callruns.proofs.plan_claims_calls.Goals as goal

pub returns : goal.returns
returns c = accepted_claims_calls
