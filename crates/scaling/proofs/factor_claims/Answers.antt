-- `scaling::factor_claims` meets its contract: the claim is the law `all_nearest`. Assumes nothing.
use Rattle.scaling.proofs.Sweep.{all_nearest}
use Rattle.scaling.proofs.factor_claims.Goals as goal

pub returns : goal.returns
returns c = all_nearest
