-- `figure::places_17` meets its contract. Assumes nothing.

use Rattle.figure.proofs.places_17.Goals as goal

pub returns-else-literal : goal.returns-else-literal
returns-else-literal c = rw c.if-literal.false c.emitter_places.ensures
