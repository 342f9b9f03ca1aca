-- `lampcalls::lamp_is_read` meets its contract: the claim is proved in proofs/LampReads. Assumes nothing.
use Rattle.lampcalls.proofs.LampReads.{lamp_is_read}
use Rattle.lampcalls.proofs.lamp_is_read.Goals as goal

pub returns : goal.returns
returns c = lamp_is_read
