-- `modulator::mark_line` meets its contract, mark by mark. Assumes nothing.
use mathlib.Core.Path.{refl}
use borrow.Author.Tests.{eq-eqb, ne_eqb}
use Rattle.rules.specs.Roles.{excluded_mark, plc_mark}
use Rattle.rules.specs.Frame.{filler}
use Rattle.modulator.specs.Lines.{mark_line}
use Rattle.modulator.proofs.mark_line.Goals as goal

pub returns-then-mark-eq32769 : goal.returns-then-mark-eq32769
unfolding mark_line
returns-then-mark-eq32769 c = rw (eq-eqb c.args.mark filler c.if-mark-eq32769.true) refl

pub returns-then-mark-eq32770 : goal.returns-then-mark-eq32770
unfolding mark_line
returns-then-mark-eq32770 c =
    let k = c.args.mark in
    rw (ne_eqb k filler c.if-mark-eq32769.false, eq-eqb k excluded_mark c.if-mark-eq32770.true) refl

pub returns-then-mark-eq32772 : goal.returns-then-mark-eq32772
unfolding mark_line
returns-then-mark-eq32772 c =
    let k = c.args.mark in
    rw (ne_eqb k filler c.if-mark-eq32769.false, ne_eqb k excluded_mark c.if-mark-eq32770.false, eq-eqb k plc_mark c.if-mark-eq32772.true) refl

pub returns : goal.returns
unfolding mark_line
returns c =
    let k = c.args.mark in
    rw (ne_eqb k filler c.if-mark-eq32769.false, ne_eqb k excluded_mark c.if-mark-eq32770.false, ne_eqb k plc_mark c.if-mark-eq32772.false) c.pilot.ensures
