-- `records::bad_length` meets its contract: each return follows from the tests that led to it. Assumes nothing.
use borrow.Author.Tests.{lt-ltb, le-ltb}
use Rattle.rules.specs.Grounds.{bad_length}
use Rattle.records.proofs.bad_length.Goals as goal

pub returns-then-n-lt8 : goal.returns-then-n-lt8
unfolding bad_length
returns-then-n-lt8 c = simp (lt-ltb _ _ c.if-n-lt8.true)

pub returns-then-n-gt4096 : goal.returns-then-n-gt4096
unfolding bad_length
returns-then-n-gt4096 c = simp (le-ltb _ _ c.if-n-lt8.false, lt-ltb _ _ c.if-n-gt4096.true)

pub returns : goal.returns
unfolding bad_length
returns c = simp (le-ltb _ _ c.if-n-lt8.false, le-ltb _ _ c.if-n-gt4096.false)
