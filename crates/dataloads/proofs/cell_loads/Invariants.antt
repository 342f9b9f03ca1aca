-- `dataloads::cell_loads` meets its contract. The cells below p have their loads. Assumes nothing.
use lib.ListN.{length, get_or}
use Rattle.counting.proofs.Lists.{Laid}
use Rattle.dataloads.proofs.cell_loads.Given as goal

abbrev pub invariant-loop-p : goal.invariant-loop-p
invariant-loop-p l = Laid (λ q. get_or l.profile (get_or l.kc q 0) 0) (length l.initial.x) l.p l.x
