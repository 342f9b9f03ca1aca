-- `modulate::line_from` meets its contract: a point, or a mark. Assumes nothing.
use mathlib.Core.Path.{ap, ◌∙◌}
use Rattle.modulator.specs.declared.OnLine.TheVariants.{Point}
use Rattle.std.specs.Prelude.{Ok}
use Rattle.loadlimits.proofs.Admitting.{unrefused}
use Rattle.modulate.proofs.Unrefused.{listed, value_in, mark_in, line_value, line_mark}
use Rattle.modulate.proofs.line_from.Goals as goal

pub point_from-requires : goal.point_from-requires
point_from-requires c =
    let a = c.args in
    let e = unrefused a.cell a.load a.minus c.requires.1 in
    (c.requires.0, listed a.cell a.load a.minus e, value_in a.cell a.load a.minus e c.if-cell-lt32768.true)

pub returns-then-cell-lt32768 : goal.returns-then-cell-lt32768
returns-then-cell-lt32768 c =
    let g = c in
    let a = g.args in
    ap Ok (ap Point c.point_from.ensures) ∙ line_value a.cell a.load a.minus (unrefused a.cell a.load a.minus g.requires.1) c.if-cell-lt32768.true

pub mark_line-requires : goal.mark_line-requires
mark_line-requires c =
    let a = c.args in
    (c.if-cell-lt32768.false, mark_in a.cell a.load a.minus (unrefused a.cell a.load a.minus c.requires.1) c.if-cell-lt32768.false)

pub returns : goal.returns
returns c =
    let g = c in
    let a = g.args in
    ap Ok c.mark_line.ensures ∙ line_mark a.cell a.load a.minus (unrefused a.cell a.load a.minus g.requires.1) c.if-cell-lt32768.false
