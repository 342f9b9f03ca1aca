-- `lamp::lamp_on` meets its contract. Assumes nothing.
use Prim.Native.Nat.{ℕ}
use mathlib.Core.Path.{ap, ◌∙◌}
use mathlib.Core.List.{List}
use lib.ListN.{length}
use Rattle.lampgrounds.specs.declared.LampAnswer.{LampAnswer}
use Rattle.lampgrounds.specs.Steps.{leaves_record}
use Rattle.lampgrounds.specs.Opening.{heard_cells}
use Rattle.lampgrounds.proofs.Heard.{length_cells, room, opened_heard, opened_refused}
use Rattle.lamp.proofs.lamp_on.Goals as goal

pub hear-requires : goal.hear-requires
hear-requires c =
    let s = c in
    let a = s.args in
    let list = c.open_step-p in
    let r = room a.d s.requires a.plan.now a.counts.now a.symbol.now list.result list.ensures _ c.in-Ok.is in
    (ap length c.cells_at.ensures ∙ length_cells _ _, r.0, r.1)

pub returns-in-Err : goal.returns-in-Err
returns-in-Err c =
    let s = c in
    let a = s.args in
    let list = c.open_step-p in
    ap (λ (x : LampAnswer). leaves_record x a.counts.now) c.refused.ensures
    ∙ opened_refused a.d s.requires a.plan.now a.counts.now a.symbol.now list.result list.ensures _ c.in-Err.is

pub returns-in-Ok : goal.returns-in-Ok
returns-in-Ok c =
    let h = c in
    let s = h in
    let a = s.args in
    let list = h.open_step-p in
    h.hear.ensures ∙ ap (λ (x : List ℕ). heard_cells x h.in-Ok.n a.counts.now) h.cells_at.ensures
    ∙ opened_heard a.d s.requires a.plan.now a.counts.now a.symbol.now list.result list.ensures _ h.in-Ok.is
