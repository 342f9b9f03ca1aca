-- `recordgrounds::bad_numbers` meets its contract: each return follows from the tests that led to it. Assumes nothing.
use borrow.Author.Tests.{ne_eqb, lt-ltb, le-ltb, le-leb, lt-leb}
use Rattle.rules.specs.Grounds.{bad_numbers}
use Rattle.recordgrounds.proofs.bad_numbers.Goals as goal

pub returns-then-e-d : goal.returns-then-e-d
unfolding bad_numbers
returns-then-e-d c = simp (c.if-e-eq1.true, lt-ltb _ _ c.if-e-d.true)

pub returns-then-d-e : goal.returns-then-d-e
unfolding bad_numbers
returns-then-d-e c = simp (c.if-e-eq1.true, le-ltb _ _ c.if-e-d.false, lt-ltb _ _ c.if-d-e.true)

pub returns-then-e-lt1 : goal.returns-then-e-lt1
unfolding bad_numbers
returns-then-e-lt1 c = simp (c.if-e-eq1.true, le-ltb _ _ c.if-e-d.false, le-ltb _ _ c.if-d-e.false, lt-ltb _ _ c.if-e-lt1.true)

pub returns-then-d-e-2 : goal.returns-then-d-e-2
unfolding bad_numbers
returns-then-d-e-2 c = simp (c.if-e-eq1.true, le-ltb _ _ c.if-e-d.false, le-ltb _ _ c.if-d-e.false, le-ltb _ _ c.if-e-lt1.false, lt-ltb _ _ c.if-d-e-2.true)

pub returns-then-e-eq1 : goal.returns-then-e-eq1
unfolding bad_numbers
returns-then-e-eq1 c = simp (c.if-e-eq1.true, le-ltb _ _ c.if-e-d.false, le-ltb _ _ c.if-d-e.false, le-ltb _ _ c.if-e-lt1.false, le-ltb _ _ c.if-d-e-2.false)

pub returns-then-d-e-3 : goal.returns-then-d-e-3
unfolding bad_numbers
returns-then-d-e-3 c = simp (c.if-e-eq2.true, le-leb _ _ c.if-d-e-3.true)

pub returns-then-d-e-4 : goal.returns-then-d-e-4
unfolding bad_numbers
returns-then-d-e-4 c = simp (c.if-e-eq2.true, lt-leb _ _ c.if-d-e-3.false, le-leb _ _ c.if-d-e-4.true)

pub returns-then-e : goal.returns-then-e
unfolding bad_numbers
returns-then-e c = simp (c.if-e-eq2.true, lt-leb _ _ c.if-d-e-3.false, lt-leb _ _ c.if-d-e-4.false, lt-ltb _ _ c.if-e.true)

pub returns-then-e-eq2 : goal.returns-then-e-eq2
unfolding bad_numbers
returns-then-e-eq2 c = simp (c.if-e-eq2.true, lt-leb _ _ c.if-d-e-3.false, lt-leb _ _ c.if-d-e-4.false, le-ltb _ _ c.if-e.false)

pub returns-then-e-d-2 : goal.returns-then-e-d-2
unfolding bad_numbers
returns-then-e-d-2 c = simp (c.if-e-eq3.true, lt-leb _ _ c.if-e-d-2.true)

pub returns-then-e-eq3 : goal.returns-then-e-eq3
unfolding bad_numbers
returns-then-e-eq3 c = simp (c.if-e-eq3.true, le-leb _ _ c.if-e-d-2.false)

pub returns : goal.returns
unfolding bad_numbers
returns c = simp (ne_eqb _ _ c.if-e-eq1.false, ne_eqb _ _ c.if-e-eq2.false, ne_eqb _ _ c.if-e-eq3.false)
