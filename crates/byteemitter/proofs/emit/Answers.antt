-- `byteemitter::emit` meets its contract. Assumes nothing.
use Rattle.rules.specs.Steps.{emit_step}
use Rattle.bytecells.specs.ByteSteps.{emit_bytes}
use Rattle.byteemitter.proofs.emit.Goals as goal

pub returns : goal.returns
unfolding emit_bytes emit_step
returns c = c.send.ensures
