-- `arrivals::cell_fits` meets its contract: one line for each return. Assumes nothing.
use mathlib.Core.Path.{refl}
use borrow.Author.Tests.{eq-eqb, ne_eqb, le-leb, lt-leb}
use Rattle.arrivals.specs.Expected.{allowed}
use Rattle.arrivals.proofs.cell_fits.Goals as goal

pub returns-then-x-limit : goal.returns-then-x-limit
unfolding allowed
returns-then-x-limit c = rw (eq-eqb _ _ c.if-mark-eq0.true, le-leb _ _ c.if-x-limit.true) refl

pub returns-then-x-eq-FILLER : goal.returns-then-x-eq-FILLER
unfolding allowed
returns-then-x-eq-FILLER c = rw (eq-eqb _ _ c.if-mark-eq0.true, lt-leb _ _ c.if-x-limit.false, eq-eqb _ _ c.if-x-eq-FILLER.true) refl

pub returns-then-mark-eq0 : goal.returns-then-mark-eq0
unfolding allowed
returns-then-mark-eq0 c = rw (eq-eqb _ _ c.if-mark-eq0.true, lt-leb _ _ c.if-x-limit.false, ne_eqb _ _ c.if-x-eq-FILLER.false) refl

pub returns-then-x-mark : goal.returns-then-x-mark
unfolding allowed
returns-then-x-mark c = rw (ne_eqb _ _ c.if-mark-eq0.false, eq-eqb _ _ c.if-x-mark.true) refl

pub returns : goal.returns
unfolding allowed
returns c = rw (ne_eqb _ _ c.if-mark-eq0.false, ne_eqb _ _ c.if-x-mark.false) refl
