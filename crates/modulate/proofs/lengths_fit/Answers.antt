-- `modulate::lengths_fit` meets its contract, length by length. Assumes nothing.
use mathlib.Core.Path.{refl}
use borrow.Author.Tests.{eq-eqb, ne_eqb}
use Rattle.modulate.proofs.lengths_fit.Goals as goal

pub returns-then-symbol-n : goal.returns-then-symbol-n
returns-then-symbol-n c = let a = c.args in rw (ne_eqb a.symbol a.n c.if-symbol-n.true) refl

pub returns-then-loads-n : goal.returns-then-loads-n
returns-then-loads-n c =
    let a = c.args in
    rw (eq-eqb a.symbol a.n c.if-symbol-n.false, ne_eqb a.loads a.n c.if-loads-n.true) refl

pub returns-then-minus-n : goal.returns-then-minus-n
returns-then-minus-n c =
    let a = c.args in
    rw (eq-eqb a.symbol a.n c.if-symbol-n.false, eq-eqb a.loads a.n c.if-loads-n.false, ne_eqb a.minus a.n c.if-minus-n.true) refl

pub returns : goal.returns
returns c =
    let a = c.args in
    rw (eq-eqb a.symbol a.n c.if-symbol-n.false, eq-eqb a.loads a.n c.if-loads-n.false, eq-eqb a.minus a.n c.if-minus-n.false) refl
