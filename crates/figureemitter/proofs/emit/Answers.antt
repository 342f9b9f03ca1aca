-- `figureemitter::emit` meets its contract. Assumes nothing.
use Rattle.figure.specs.Steps.{figure_emit_step}
use Rattle.figureemitter.proofs.emit.Goals as goal

pub returns : goal.returns
unfolding figure_emit_step
returns c = c.send.ensures
