-- `lampgrounds::open_accepted` meets its contract. Assumes nothing.
use mathlib.Core.Path.{sym, ◌∙◌}
use Rattle.lampgrounds.proofs.Opened.{open_28, open_17, open_fine}
use Rattle.lampgrounds.proofs.open_accepted.Goals as goal

pub returns-then-bad_record : goal.returns-then-bad_record
returns-then-bad_record c =
    let s = c in
    c.unlisted.ensures ∙ open_28 s.args.d s.args.plan.now s.args.counts.now s.args.cells s.args.n s.args.p s.requires.0 s.requires.1 (sym c.bad_record.ensures ∙ c.if-bad_record.true)

pub returns-then-cells-d : goal.returns-then-cells-d
returns-then-cells-d c =
    let s = c in
    c.unlisted-then-cells-d.ensures
    ∙ open_17 s.args.d s.args.plan.now s.args.counts.now s.args.cells s.args.n s.args.p s.requires.0 s.requires.1 (sym c.bad_record.ensures ∙ c.if-bad_record.false) c.if-cells-d.true

pub returns : goal.returns
returns c =
    let s = c in
    open_fine s.args.d s.args.plan.now s.args.counts.now s.args.cells s.args.n s.args.p s.requires.0 s.requires.1 (sym c.bad_record.ensures ∙ c.if-bad_record.false) c.if-cells-d.false
