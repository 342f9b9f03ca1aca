-- `markgrounds::first_from` meets its contract. The loop has passed cells that all are the other way. Assumes nothing.
use native.Mathlib.Omega.{arith}
use Rattle.counting.specs.Search.{is_zero}
use Rattle.marks.proofs.Stretches.{beq_true, beq_false, look_more}
use Rattle.markgrounds.proofs.first_from.Goals as goal

pub returns-then-m-k : goal.returns-then-m-k
unfolding is_zero
returns-then-m-k c =
    record { low = omega arith; high = omega arith; none = c.loop-k.invariant; some = λ h. beq_true _ _ c.if-m-k.true }

pub loop-k-preserved : goal.loop-k-preserved
unfolding is_zero
loop-k-preserved c = look_more c.args.clear _ _ c.loop-k.k c.loop-k.invariant (beq_false _ _ c.if-m-k.false)
