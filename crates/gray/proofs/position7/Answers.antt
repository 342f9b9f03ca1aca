-- `gray::position7` meets its contract: the packed positions, tested once over all seven bits. Assumes nothing.
use Rattle.gray.proofs.Packed.{packed_even, packed_odd}
use Rattle.gray.proofs.position7.Goals as goal

pub returns-then-p-eq0 : goal.returns-then-p-eq0
returns-then-p-eq0 c = packed_even c.args.x c.if-p-eq0.true

pub returns-else-p-eq0 : goal.returns-else-p-eq0
returns-else-p-eq0 c = packed_odd c.args.x c.if-p-eq0.false
