-- `emitter::flush` meets its contract. Assumes nothing.
use Rattle.rules.specs.Steps.{flush_step}
use Rattle.emitter.proofs.flush.Goals as goal

pub returns : goal.returns
unfolding flush_step
returns c = c.send.ensures
