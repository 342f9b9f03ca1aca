-- `modulator::line_claims` meets its contract: the claim is the law `line_claims`. Assumes nothing.
use Rattle.modulator.proofs.LineClaims.{line_claims}
use Rattle.modulator.proofs.line_claims.Goals as goal

pub returns : goal.returns
returns c = line_claims
