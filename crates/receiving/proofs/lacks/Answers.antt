-- `receiving::lacks` meets its contract. Assumes nothing.
use mathlib.Core.Path.{sym, ap, ◌∙◌}
use mathlib.Core.Bool.{Bool, not, ◌&&◌}
use lib.Dec.{ltb}
use Rattle.receiving.proofs.lacks.Goals as goal

pub returns-then-warms : goal.returns-then-warms
returns-then-warms c =
    let a = c.args in
    ap (λ (w : Bool). not w && ltb a.places a.nd) (sym c.if-warms.true ∙ c.warms.ensures)

pub returns : goal.returns
returns c =
    let a = c.args in
    ap (λ (w : Bool). not w && ltb a.places a.nd) (sym c.if-warms.false ∙ c.warms.ensures)
