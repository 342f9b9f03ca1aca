-- `recordgrounds::bad_next` meets its contract: each return follows from the tests that led to it. Assumes nothing.
use borrow.Author.Tests.{ne_eqb, lt-ltb, le-ltb}
use Rattle.rules.specs.Plan.{leads}
use Rattle.rules.specs.Grounds.{bad_next}
use Rattle.recordgrounds.proofs.bad_next.Goals as goal

pub returns-then-e-eq0 : goal.returns-then-e-eq0
unfolding bad_next leads
returns-then-e-eq0 c = simp c.if-e-eq0.true

pub returns-then-e : goal.returns-then-e
unfolding bad_next leads
returns-then-e c = simp (ne_eqb _ _ c.if-e-eq0.false, le-ltb _ _ c.if-e.true)

pub returns-then-records-e : goal.returns-then-records-e
unfolding bad_next leads
returns-then-records-e c = simp (ne_eqb _ _ c.if-e-eq0.false, lt-ltb _ _ c.if-e.false, le-ltb _ _ c.if-records-e.true)

pub returns : goal.returns
unfolding bad_next leads
returns c = simp (ne_eqb _ _ c.if-e-eq0.false, lt-ltb _ _ c.if-e.false, lt-ltb _ _ c.if-records-e.false)
