-- `byteemitter::flush` meets its contract: no bytes are an even number. Assumes nothing.
use Rattle.counting.proofs.Bools.{or_false}
use Rattle.rules.specs.Steps.{flush_step}
use Rattle.bytecells.specs.Octets.{odd}
use Rattle.bytecells.specs.ByteSteps.{flush_bytes}
use Rattle.byteemitter.proofs.flush.Goals as goal

pub returns : goal.returns
unfolding flush_bytes flush_step odd
returns c = rw (or_false (odd c.args.store.now)) at c.send.ensures
