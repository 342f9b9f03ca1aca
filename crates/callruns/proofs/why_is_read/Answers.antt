-- `callruns::why_is_read` meets its contract: the claim is the law `why_is_read`. Assumes nothing.
use Rattle.callruns.proofs.WhyReads.{why_is_read}
use Rattle.callruns.proofs.why_is_read.Goals as goal

pub returns : goal.returns
returns c = why_is_read
