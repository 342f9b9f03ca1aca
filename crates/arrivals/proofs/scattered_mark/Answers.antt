-- `arrivals::scattered_mark` meets its contract. Assumes nothing.
use mathlib.Core.Path.{refl}
use borrow.Author.Tests.{eq-eqb, ne_eqb}
use Rattle.arrivals.specs.Expected.{scattered_mark}
use Rattle.arrivals.proofs.scattered_mark.Goals as goal

pub returns-then-mark-eq0 : goal.returns-then-mark-eq0
unfolding scattered_mark
returns-then-mark-eq0 c = rw (eq-eqb _ _ c.if-mark-eq0.true) refl

pub returns-else-mark-eq0 : goal.returns-else-mark-eq0
unfolding scattered_mark
returns-else-mark-eq0 c = rw (ne_eqb _ _ c.if-mark-eq0.false) refl
