-- `byteemitter::send` meets its contract: ground 21, or the step of whole cells. Assumes nothing.
use mathlib.Core.Path.{refl, sym, ◌∙◌}
use Rattle.byteemitter.proofs.send.Goals as goal

pub returns-then-some_halved : goal.returns-then-some_halved
returns-then-some_halved c = rw (sym c.some_halved.ensures.0 ∙ c.if-some_halved.true) refl

pub send_whole-requires : goal.send_whole-requires
send_whole-requires c = c.some_halved.ensures.1 c.if-some_halved.false

pub returns : goal.returns
returns c = rw (sym c.some_halved.ensures.0 ∙ c.if-some_halved.false) c.send_whole.ensures
