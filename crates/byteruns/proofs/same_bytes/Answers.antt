-- `byteruns::same_bytes` meets its contract: the claim is the law `same_bytes`. Assumes nothing.
use Rattle.byteruns.proofs.Sends.{same_bytes}
use Rattle.byteruns.proofs.same_bytes.Goals as goal

pub returns : goal.returns
returns c = same_bytes
