-- `why::makes_it_pilot` meets its contract. Assumes nothing.
use mathlib.Core.Path.{refl}
use borrow.Author.Tests.{eq-eqb, ne_eqb}
use Rattle.why.proofs.makes_it_pilot.Goals as goal

pub returns-then-e-ne3 : goal.returns-then-e-ne3
returns-then-e-ne3 c = rw (ne_eqb c.args.e.kind 3 c.if-e-ne3.true) refl

pub returns : goal.returns
returns c = rw (eq-eqb c.args.e.kind 3 c.if-e-ne3.false) refl
