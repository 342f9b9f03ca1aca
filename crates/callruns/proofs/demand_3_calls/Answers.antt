-- `callruns::demand_3_calls` meets its contract: the claim is the law `accepted_demand3_calls`. Assumes nothing.
use Rattle.callruns.proofs.Calls.{accepted_demand3_calls}
use Rattle.callruns.proofs.demand_3_calls.Goals as goal

pub returns : goal.returns
returns c = accepted_demand3_calls
