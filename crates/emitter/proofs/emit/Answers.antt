-- `emitter::emit` meets its contract. Assumes nothing.
use Rattle.rules.specs.Steps.{emit_step}
use Rattle.emitter.proofs.emit.Goals as goal

pub returns : goal.returns
unfolding emit_step
returns c = c.send.ensures
