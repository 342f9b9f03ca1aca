-- `carriers::carriers` meets its contract. Assumes nothing.
use Rattle.carriers.proofs.Blocks.{listed_none}
use Rattle.carriers.proofs.carriers.Goals as goal

pub loop-b-init : goal.loop-b-init
loop-b-init c = listed_none _ _
