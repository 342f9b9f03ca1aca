-- `figureemitter::flush` meets its contract. Assumes nothing.
use Rattle.figure.specs.Steps.{figure_flush_step}
use Rattle.figureemitter.proofs.flush.Goals as goal

pub returns : goal.returns
unfolding figure_flush_step
returns c = c.send.ensures
