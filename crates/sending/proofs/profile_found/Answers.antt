-- `sending::profile_found` meets its contract. Assumes nothing.
use mathlib.Core.Path.{refl}
use Rattle.sending.proofs.profile_found.Goals as goal

pub returns-then-flushing : goal.returns-then-flushing
returns-then-flushing c = rw c.if-flushing.true refl

pub returns : goal.returns
returns c = rw c.if-flushing.false c.profile_ground.ensures
