-- `gray::power` meets its contract. Assumes nothing.
use Rattle.gray.proofs.GrayLaws.{power_of}
use Rattle.gray.proofs.power.Goals as goal

pub returns : goal.returns
returns c = power_of c.args.bits c.requires
