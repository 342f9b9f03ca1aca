-- `reasons::why_claims` meets its contract. Assumes nothing.
use Rattle.reasons.proofs.Truth.{why_claims}
use Rattle.reasons.proofs.why_claims.Goals as goal

pub returns : goal.returns
returns c = why_claims
