-- `bytelamp::lamp_on` meets its contract. Assumes nothing.
use Prim.Native.Nat.{ℕ, ◌/◌}
use mathlib.Core.Path.{◌≡◌, sym, ap, ◌∙◌}
use mathlib.Core.List.{List}
use lib.ListN.{length}
use Rattle.bytecells.specs.Octets.{cells_of}
use Rattle.bytecells.proofs.OctetLaws.{length_cells}
use Rattle.lampgrounds.specs.declared.LampAnswer.{LampAnswer}
use Rattle.lampgrounds.specs.Steps.{leaves_record}
use Rattle.lampgrounds.specs.Opening.{opening, heard_cells}
use Rattle.lampgrounds.proofs.Heard.{room, opened_heard, opened_refused}
use Rattle.lampgrounds.proofs.Heard as heard
use Rattle.bytelamp.proofs.lamp_on.Goals as goal
use Rattle.bytelamp.proofs.lamp_on.Goals.{Start}

-- the cells are half as many as the bytes
halves : (s : Start) → opening s.args.d s.args.plan.now s.args.counts.now (length s.args.symbol.now / 2) ≡ opening s.args.d s.args.plan.now s.args.counts.now (length (cells_of s.args.symbol.now))
halves s = ap (opening s.args.d s.args.plan.now s.args.counts.now) (sym (length_cells s.args.symbol.now))

pub hear-requires : goal.hear-requires
hear-requires c =
    let s = c in
    let a = s.args in
    let list = c.open_step-p in
    let r = room a.d s.requires a.plan.now a.counts.now (cells_of a.symbol.now) list.result (list.ensures ∙ halves (goal.at.hear-requires c).Start) _ c.in-Ok.is in
    (ap length c.cells_at.ensures ∙ heard.length_cells _ _, r.0, r.1)

pub returns-in-Err : goal.returns-in-Err
returns-in-Err c =
    let s = c in
    let a = s.args in
    let list = c.open_step-p in
    ap (λ (x : LampAnswer). leaves_record x a.counts.now) c.refused.ensures
    ∙ opened_refused a.d s.requires a.plan.now a.counts.now (cells_of a.symbol.now) list.result (list.ensures ∙ halves (goal.at.returns-in-Err c).Start) _ c.in-Err.is

pub returns-in-Ok : goal.returns-in-Ok
returns-in-Ok c =
    let h = c in
    let s = h in
    let a = s.args in
    let list = h.open_step-p in
    h.hear.ensures ∙ ap (λ (x : List ℕ). heard_cells x h.in-Ok.n a.counts.now) h.cells_at.ensures
    ∙ opened_heard a.d s.requires a.plan.now a.counts.now (cells_of a.symbol.now) list.result (list.ensures ∙ halves (goal.at.returns-in-Ok c).Start) _ h.in-Ok.is
