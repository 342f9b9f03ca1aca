-- `lamprecord::bad_record` meets its contract. Assumes nothing.
use mathlib.Core.Path.{sym, ◌∙◌}
use native.Mathlib.Omega.{arith}
use Rattle.lamprecord.specs.Record.{lamp_cap}
use Rattle.lamprecord.proofs.Steps.{bad_length_lem, bad_counts}
use Rattle.lamprecord.proofs.bad_record.Goals as goal

pub returns-then-counts-n : goal.returns-then-counts-n
returns-then-counts-n c = let a = c.args in sym (bad_length_lem lamp_cap a.n a.counts.now (λ z. c.if-counts-n.true (omega arith)))

pub returns : goal.returns
returns c = let a = c.args in c.some_bad.ensures ∙ sym (bad_counts lamp_cap a.n a.counts.now (omega (arith, c.if-counts-n.false)))
