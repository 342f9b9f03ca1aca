-- `gray::negated` meets its contract. Assumes nothing.
use mir.Syntax.{w32}
use mir.ValLaws.{to_z-of_z}
use lib.IntN.{neg_ℤ}
use Rattle.gray.proofs.Signs.{minus, neg_fits}
use Rattle.gray.proofs.negated.Goals as goal

pub overflow_sub-result : goal.overflow_sub-result
overflow_sub-result c = rw (to_z-of_z w32 c.args.c c.ranges.c, minus c.args.c) (neg_fits c.args.c c.requires)

pub returns : goal.returns
returns c = rw (to_z-of_z w32 c.args.c c.ranges.c, minus c.args.c) (to_z-of_z w32 (neg_ℤ c.args.c) (neg_fits c.args.c c.requires))
