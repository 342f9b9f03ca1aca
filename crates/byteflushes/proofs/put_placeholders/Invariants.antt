-- `byteflushes::put_placeholders` meets its contract. The placeholders of the cells so far are put. Assumes nothing.
use Rattle.byteflushes.proofs.BytePutting.{BytePutting}
use Rattle.byteflushes.proofs.put_placeholders.Given as goal

abbrev pub invariant-loop-k : goal.invariant-loop-k
invariant-loop-k l = BytePutting l.m l.base l.kc l.initial.store l.store l.k-index l.at l.delay
