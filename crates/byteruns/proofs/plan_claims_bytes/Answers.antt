-- `byteruns::plan_claims_bytes` meets its contract: the claim is the law `accepted_claims_bytes`. Assumes nothing.
use Rattle.byteruns.proofs.Claims.{accepted_claims_bytes}
use Rattle.byteruns.proofs.plan_claims_bytes.Goals as goal

pub returns : goal.returns
returns c = accepted_claims_bytes
