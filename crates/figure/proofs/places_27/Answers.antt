-- `figure::places_27` meets its contract. Assumes nothing.

use Rattle.figure.proofs.places_27.Goals as goal

pub returns-then-literal : goal.returns-then-literal
returns-then-literal c = rw c.if-literal.true c.literal_places.ensures
