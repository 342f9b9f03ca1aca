-- `gray::magnitude` meets its contract. Assumes nothing.
use mathlib.Core.Path.{ap, ◌∙◌}
use lib.IntN.{nat_abs}
use mir.Syntax.{w32, w64}
use mir.ValLaws.{to_z-of_z}
use Rattle.gray.proofs.Signs.{from_zero, minus, wide, neg_wide, negated_wide, nat_abs_neg, nat_abs_fits, neg_non_neg, tested}
use Rattle.gray.proofs.magnitude.Goals as goal

pub overflow_cast-result : goal.overflow_cast-result
overflow_cast-result c = rw (to_z-of_z w32 c.args.c c.ranges.c) (wide c.args.c c.ranges.c)

pub overflow_sub-result : goal.overflow_sub-result
overflow_sub-result c = rw (to_z-of_z w32 c.args.c c.ranges.c, to_z-of_z w64 c.args.c (wide c.args.c c.ranges.c), minus c.args.c) (neg_wide c.args.c c.ranges.c)

pub overflow_cast-result-then-c-lt0 : goal.overflow_cast-result-then-c-lt0
overflow_cast-result-then-c-lt0 c =
    let z = c.args.c in
    let f = c.ranges.c in
    rw (negated_wide z f) (neg_non_neg z (tested z f c.if-c-lt0.true), rw (nat_abs_neg z) (nat_abs_fits z f))

pub overflow_cast-result-else-c-lt0 : goal.overflow_cast-result-else-c-lt0
overflow_cast-result-else-c-lt0 c =
    let z = c.args.c in
    let f = c.ranges.c in
    rw (to_z-of_z w32 z f) (from_zero z (tested z f c.if-c-lt0.false), nat_abs_fits z f)

pub returns-then-c-lt0 : goal.returns-then-c-lt0
returns-then-c-lt0 c = ap nat_abs (negated_wide c.args.c c.ranges.c) ∙ nat_abs_neg c.args.c
