-- `lamprecord::next_count` meets its contract. Assumes nothing.
use mathlib.Core.Path.{refl}
use borrow.Author.Tests.{eq-eqb, ne_eqb}
use Rattle.lamprecord.proofs.next_count.Goals as goal

pub returns-then-x-eq-CONTINUOUS : goal.returns-then-x-eq-CONTINUOUS
returns-then-x-eq-CONTINUOUS c = rw (eq-eqb _ _ c.if-x-eq-CONTINUOUS.true) c.more.ensures

pub returns-else-x-eq-CONTINUOUS : goal.returns-else-x-eq-CONTINUOUS
returns-else-x-eq-CONTINUOUS c = rw (ne_eqb _ _ c.if-x-eq-CONTINUOUS.false) refl
