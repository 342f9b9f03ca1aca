-- `lamprecord::bad_count` meets its contract. Assumes nothing.
use mathlib.Core.Path.{refl}
use borrow.Author.Tests.{lt-ltb, le-ltb}
use Rattle.lamprecord.proofs.bad_count.Goals as goal

pub returns-then-c-gt-CAP : goal.returns-then-c-gt-CAP
returns-then-c-gt-CAP c = rw (lt-ltb _ _ c.if-c-gt-CAP.true) refl

pub returns : goal.returns
returns c = rw (le-ltb _ _ c.if-c-gt-CAP.false) refl
