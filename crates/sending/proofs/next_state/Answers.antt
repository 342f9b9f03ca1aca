-- `sending::next_state` meets its contract. Assumes nothing.

use Rattle.sending.proofs.next_state.Goals as goal

pub returns : goal.returns
returns c = λ i. record { phase = c.next_phase.ensures i }
