-- `bytelamp::pilots` meets its contract. Assumes nothing.
use mathlib.Core.Path.{ap, ◌∙◌}
use Rattle.rules.specs.Device.{khz50}
use Rattle.pilots.specs.declared.PilotAnswer.{PilotAnswer}
use Rattle.bytelamp.specs.ByteLamp.{listed}
use Rattle.bytelamp.proofs.Bytes.{list_short, list_left}
use Rattle.bytelamp.proofs.pilots.Goals as goal

pub returns-then-list-lt-LIST : goal.returns-then-list-lt-LIST
returns-then-list-lt-LIST c = let a = c.args in list_short khz50 a.plan.now a.list.now c.if-list-lt-LIST.true

pub returns : goal.returns
returns c =
    let a = c.args in
    c.put_list.ensures ∙ ap (λ (p : PilotAnswer). listed p a.list.now) c.pilots.ensures
    ∙ list_left khz50 a.plan.now a.list.now c.if-list-lt-LIST.false
