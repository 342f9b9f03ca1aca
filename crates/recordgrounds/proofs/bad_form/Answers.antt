-- `recordgrounds::bad_form` meets its contract: each return follows from the tests that led to it. Assumes nothing.
use borrow.Author.Tests.{ne_eqb}
use Rattle.rules.specs.Grounds.{bad_form}
use Rattle.recordgrounds.proofs.bad_form.Goals as goal

pub returns-then-e-ne0 : goal.returns-then-e-ne0
unfolding bad_form
returns-then-e-ne0 c = simp (c.if-e-eq1.true, ne_eqb _ _ c.if-e-ne0.true)

pub returns-then-e-ne0-2 : goal.returns-then-e-ne0-2
unfolding bad_form
returns-then-e-ne0-2 c = simp (c.if-e-eq1.true, c.if-e-ne0.false, ne_eqb _ _ c.if-e-ne0-2.true)

pub returns-then-e-eq1 : goal.returns-then-e-eq1
unfolding bad_form
returns-then-e-eq1 c = simp (c.if-e-eq1.true, c.if-e-ne0.false, c.if-e-ne0-2.false)

pub returns-then-e-eq0 : goal.returns-then-e-eq0
unfolding bad_form
returns-then-e-eq0 c = simp (c.if-e-eq2.true, c.if-e-eq0.true)

pub returns-then-e-ne0-3 : goal.returns-then-e-ne0-3
unfolding bad_form
returns-then-e-ne0-3 c = simp (c.if-e-eq2.true, ne_eqb _ _ c.if-e-eq0.false, ne_eqb _ _ c.if-e-ne0-3.true)

pub returns-then-e-eq2 : goal.returns-then-e-eq2
unfolding bad_form
returns-then-e-eq2 c = simp (c.if-e-eq2.true, ne_eqb _ _ c.if-e-eq0.false, c.if-e-ne0-3.false)

pub returns-then-e-eq0-2 : goal.returns-then-e-eq0-2
unfolding bad_form
returns-then-e-eq0-2 c = simp (c.if-e-eq3.true, c.if-e-eq0-2.true)

pub returns-then-e-ne0-4 : goal.returns-then-e-ne0-4
unfolding bad_form
returns-then-e-ne0-4 c = simp (c.if-e-eq3.true, ne_eqb _ _ c.if-e-eq0-2.false, ne_eqb _ _ c.if-e-ne0-4.true)

pub returns-then-e-ne0-5 : goal.returns-then-e-ne0-5
unfolding bad_form
returns-then-e-ne0-5 c = simp (c.if-e-eq3.true, ne_eqb _ _ c.if-e-eq0-2.false, c.if-e-ne0-4.false, ne_eqb _ _ c.if-e-ne0-5.true)

pub returns-then-e-eq3 : goal.returns-then-e-eq3
unfolding bad_form
returns-then-e-eq3 c = simp (c.if-e-eq3.true, ne_eqb _ _ c.if-e-eq0-2.false, c.if-e-ne0-4.false, c.if-e-ne0-5.false)

pub returns : goal.returns
unfolding bad_form
returns c = simp (ne_eqb _ _ c.if-e-eq1.false, ne_eqb _ _ c.if-e-eq2.false, ne_eqb _ _ c.if-e-eq3.false)
