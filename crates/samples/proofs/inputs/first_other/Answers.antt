-- `samples::inputs::first_other` meets its contract. The loop has passed i cells, all as wanted. Assumes nothing.
use mathlib.Core.Path.{sym, ap, ◌∙◌}
use mathlib.Core.Bool.{not}
use native.Mathlib.Numerals.{add-one}
use lib.ListN.{length}
use borrow.Author.Tests.{eq-eqb, ne_eqb}
use Rattle.counting.proofs.Laws.{lowest_zero, lowest_on}
use Rattle.samples.proofs.FirstLaws.{first_here}
use Rattle.samples.specs.Inputs.{is_other}
use Rattle.samples.proofs.inputs.first_other.Goals as goal

pub loop-i-init : goal.loop-i-init
loop-i-init c = lowest_zero _

pub returns-then-x-wanted : goal.returns-then-x-wanted
returns-then-x-wanted c =
    let a = c.args in
    let l = c.loop-i in
    first_here (is_other a.start a.t a.count a.limits.now a.cells.now) l.i (length a.cells.now) c.loop-i-test.true l.invariant (ap not (ne_eqb _ _ (λ e. c.if-x-wanted.true (e ∙ sym c.wanted.ensures))))

pub loop-i-preserved : goal.loop-i-preserved
loop-i-preserved c =
    let a = c.args in
    let l = c.loop-i in
    rw add-one (lowest_on (is_other a.start a.t a.count a.limits.now a.cells.now) l.i l.invariant (ap not (eq-eqb _ _ (c.if-x-wanted.false ∙ c.wanted.ensures))))
