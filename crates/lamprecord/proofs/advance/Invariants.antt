-- `lamprecord::advance` meets its contract. Assumes nothing.
use lib.Dec.{eqb}
use lib.ListN.{get_or}
use Rattle.rules.specs.Roles.{continuous_mark}
use Rattle.lamprecord.specs.Record.{lamp_cap}
use Rattle.lamprecord.proofs.Steps.{Advanced}
use Rattle.lamprecord.proofs.advance.Given as goal

abbrev pub invariant-loop-i : goal.invariant-loop-i
invariant-loop-i l = Advanced lamp_cap (λ q. eqb (get_or l.cells q 0) continuous_mark) l.n l.initial.counts l.i l.counts
