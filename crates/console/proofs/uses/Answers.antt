-- A # uses one number, and any other byte none.
use Rattle.console.proofs.Printing.{used_hash, used_other}
use Rattle.console.proofs.uses.Goals as goal

pub returns-then-byte-eq35-clause-value : goal.returns-then-byte-eq35-clause-value
returns-then-byte-eq35-clause-value c = used_hash _ c.if-byte-eq35.true

pub returns-clause-value : goal.returns-clause-value
returns-clause-value c = used_other _ c.if-byte-eq35.false
