-- `modulator::profile_claims` meets its contract: the claim is the law `profile_claims`. Assumes nothing.
use Rattle.modulator.proofs.ProfileLaws.{profile_claims}
use Rattle.modulator.proofs.profile_claims.Goals as goal

pub returns : goal.returns
returns c = profile_claims
