-- `byteruns::demand_3_bytes` meets its contract: the claim is the law `accepted_demand3_bytes`. Assumes nothing.
use Rattle.byteruns.proofs.Claims.{accepted_demand3_bytes}
use Rattle.byteruns.proofs.demand_3_bytes.Goals as goal

pub returns : goal.returns
returns c = accepted_demand3_bytes
