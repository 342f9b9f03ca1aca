-- `runs::demand_3` meets its contract: the claim is the law `accepted_demand3`. Assumes nothing.
use Rattle.runs.proofs.Claims.{accepted_demand3}
use Rattle.runs.proofs.demand_3.Goals as goal

pub returns : goal.returns
returns c = accepted_demand3
