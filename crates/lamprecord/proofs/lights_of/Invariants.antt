-- `lamprecord::lights_of` meets its contract. Assumes nothing.
use Rattle.counting.specs.Search.{bit}
use Rattle.counting.proofs.Lists.{Laid}
use Rattle.pilots.specs.Pilots.{pilots_most}
use Rattle.lamprecord.specs.Record.{lit}
use Rattle.lamprecord.proofs.lights_of.Given as goal

abbrev pub invariant-loop-i : goal.invariant-loop-i
invariant-loop-i l = Laid (λ q. bit (lit l.counts q)) pilots_most l.i l.out
