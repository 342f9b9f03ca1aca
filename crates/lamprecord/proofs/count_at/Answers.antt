-- `lamprecord::count_at` meets its contract. Assumes nothing.
use mathlib.Core.Path.{sym}
use lib.ListN.{get_or-eq_default}
use Rattle.lamprecord.proofs.count_at.Goals as goal

pub returns : goal.returns
returns c = let a = c.args in sym (get_or-eq_default a.counts.now 0 {n = a.i} c.if-i-counts.false)
