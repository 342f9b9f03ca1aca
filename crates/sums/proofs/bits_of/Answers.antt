-- `sums::bits_of` meets its contract. Assumes nothing.
use Rattle.sums.proofs.Singles.{equal_number, unequal_bits}
use Rattle.sums.proofs.bits_of.Goals as goal

pub float_to_bits-result : goal.float_to_bits-result
float_to_bits-result c = equal_number c.args.y c.if-y.true

pub returns : goal.returns
returns c = unequal_bits c.args.y c.if-y.false
