-- `lamprecord::more` meets its contract. Assumes nothing.
use mathlib.Core.Path.{sym}
use native.Mathlib.Omega.{arith}
use Rattle.lamprecord.specs.Record.{lamp_cap}
use Rattle.lamprecord.proofs.Counts.{capped_low, capped_high}
use Rattle.lamprecord.proofs.more.Goals as goal

pub returns-then-c-lt-CAP : goal.returns-then-c-lt-CAP
returns-then-c-lt-CAP c = sym (capped_low lamp_cap _ (omega arith))

pub returns-else-c-lt-CAP : goal.returns-else-c-lt-CAP
returns-else-c-lt-CAP c = sym (capped_high lamp_cap _ (omega arith))
