-- `gray::sign` meets its contract. Assumes nothing.
use Rattle.gray.proofs.Signs.{minus_one, plus_one, tested}
use Rattle.gray.proofs.sign.Goals as goal

pub returns-then-c-lt0 : goal.returns-then-c-lt0
returns-then-c-lt0 c = minus_one c.args.c (tested c.args.c c.ranges.c c.if-c-lt0.true)

pub returns-else-c-lt0 : goal.returns-else-c-lt0
returns-else-c-lt0 c = plus_one c.args.c (tested c.args.c c.ranges.c c.if-c-lt0.false)
