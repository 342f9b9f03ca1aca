-- `figureruns::same_as_figure` meets its contract: the claim is the law `accepted_same`. Assumes nothing.
use Rattle.figureruns.proofs.Claims.{accepted_same}
use Rattle.figureruns.proofs.same_as_figure.Goals as goal

pub returns : goal.returns
returns c = accepted_same
