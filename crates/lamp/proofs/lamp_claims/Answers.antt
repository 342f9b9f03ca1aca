-- `lamp::lamp_claims` meets its contract: the claims are proved in proofs/Runs. Assumes nothing.
use Rattle.lamp.proofs.Runs.{lamp_claims}
use Rattle.lamp.proofs.lamp_claims.Goals as goal

pub returns : goal.returns
returns c = lamp_claims
