-- `exclusion::trial_claims` meets its contract: the claim is the law `trial_claims`. Assumes nothing.
use Rattle.exclusion.proofs.ClaimLaws.{trial_claims}
use Rattle.exclusion.proofs.trial_claims.Goals as goal

pub returns : goal.returns
returns c = trial_claims
