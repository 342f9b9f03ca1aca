-- `why::excludes_it` meets its contract. Assumes nothing.
use mathlib.Core.Path.{refl}
use borrow.Author.Tests.{eq-eqb, ne_eqb, le-leb, lt-leb}
use Rattle.why.proofs.excludes_it.Goals as goal

pub returns-then-e-ne2 : goal.returns-then-e-ne2
returns-then-e-ne2 c = rw (ne_eqb c.args.e.kind 2 c.if-e-ne2.true) refl

pub returns-then-k-e : goal.returns-then-k-e
returns-then-k-e c =
    let g = c.args in
    rw (eq-eqb g.e.kind 2 c.if-e-ne2.false, lt-leb g.e.low g.k c.if-k-e.true) refl

pub returns : goal.returns
returns c =
    let g = c.args in
    rw (eq-eqb g.e.kind 2 c.if-e-ne2.false, le-leb g.e.low g.k c.if-k-e.false) refl
