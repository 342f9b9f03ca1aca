-- `loadlimits::first_refused` meets its contract. Assumes nothing.
use mathlib.Core.Path.{◌∙◌}
use lib.ListN.{length}
use Rattle.loadlimits.proofs.Admitting.{refusal_is}
use Rattle.loadlimits.proofs.first_refused.Goals as goal

pub returns : goal.returns
returns c = λ minus.
    let a = c.args in
    c.lowest_unadmitted.ensures ∙ refusal_is a.symbol.now a.loads.now minus (length a.symbol.now)
