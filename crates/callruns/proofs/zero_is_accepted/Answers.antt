-- `callruns::zero_is_accepted` meets its contract: the claim is the law `zero_is_accepted`. Assumes nothing.
use Rattle.rules.specs.Device.{khz50}
use Rattle.callruns.proofs.Zeros.{zero_is_accepted}
use Rattle.callruns.proofs.zero_is_accepted.Goals as goal

pub returns : goal.returns
returns c = zero_is_accepted khz50
