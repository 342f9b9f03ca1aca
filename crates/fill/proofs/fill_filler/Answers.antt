-- `fill::fill_filler` meets its contract. The loop has filled the cells below p. Assumes nothing.
use mathlib.Core.Path.{◌≡◌, ◌∙◌}
use Rattle.counting.proofs.Lists.{laid_none, laid_next, laid_all}
use Rattle.fill.specs.Flags.{filler_cell}
use Rattle.fill.proofs.Filling.{filler_free, filler_held}
use Rattle.fill.proofs.fill_filler.Goals as goal
use Rattle.fill.proofs.fill_filler.Goals.{then-flag-p-ne0, else-flag-p-ne0}

pub loop-p-init : goal.loop-p-init
loop-p-init c = laid_none _ _

pub loop-p-preserved : goal.loop-p-preserved
loop-p-preserved c =
    let flag = c.args.flag.now in
    let l = c.loop-p in
    let cell : c.if-flag-p-ne0.cell ≡ filler_cell flag l.p =
    elim c.if-flag-p-ne0.branch [ then-flag-p-ne0 w ↦ w.cell-is ∙ filler_held flag l.p w.if-flag-p-ne0.true | else-flag-p-ne0 w ↦ w.cell-is ∙ filler_free flag l.p w.if-flag-p-ne0.false ] in
    laid_next _ _ l.p l.cells _ l.invariant c.loop-p-test.true cell

pub returns : goal.returns
returns c = laid_all _ _ _ _ c.loop-p.invariant c.loop-p-test.false
