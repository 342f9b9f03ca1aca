-- `plan::put_if` meets its contract. Assumes nothing.
use Rattle.plan.proofs.PutLaws.{put_none, put_some}
use Rattle.plan.proofs.put_if.Goals as goal

pub returns-then-not-on : goal.returns-then-not-on
returns-then-not-on c = rw c.if-not-on.true (put_none _ _ _ c.requires.0)

pub returns : goal.returns
returns c = rw c.if-not-on.false (put_some _ _ _ c.requires.0 c.requires.1)
