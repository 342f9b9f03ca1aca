-- `longstore::same_as_long` meets its contract: the claim is the law `accepted_same`. Assumes nothing.
use Rattle.longstore.proofs.Claims.{accepted_same}
use Rattle.longstore.proofs.same_as_long.Goals as goal

pub returns : goal.returns
returns c = accepted_same
