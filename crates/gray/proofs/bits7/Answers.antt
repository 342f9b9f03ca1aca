-- `gray::bits7` meets its contract: the packed bits, tested once over all positions of seven. Assumes nothing.
use Rattle.gray.proofs.Packed.{unpacked_even, unpacked_odd}
use Rattle.gray.proofs.bits7.Goals as goal

pub returns-then-h-eq0 : goal.returns-then-h-eq0
returns-then-h-eq0 c = unpacked_even c.args.p c.requires c.if-h-eq0.true

pub returns-else-h-eq0 : goal.returns-else-h-eq0
returns-else-h-eq0 c = unpacked_odd c.args.p c.requires c.if-h-eq0.false
