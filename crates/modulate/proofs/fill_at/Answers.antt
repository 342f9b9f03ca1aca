-- `modulate::fill_at` meets its contract. Assumes nothing.
use Prim.Native.Nat.{ℕ}
use mathlib.Core.Path.{ap, ap₂, ◌∙◌}
use lib.ListN.{get_or}
use Rattle.loadlimits.specs.Limits.{limit_of, admits}
use Rattle.loadlimits.proofs.Admitting.{admitted_at}
use Rattle.modulator.specs.Lines.{line_answer}
use Rattle.modulator.specs.Symbols.{put_answer, line_at}
use Rattle.modulate.proofs.fill_at.Goals as goal

pub line_from-line-requires : goal.line_from-line-requires
line_from-line-requires c =
    let g = c in
    let a = g.args in (
      g.requires.0,
      ap (λ (m : ℕ). admits (limit_of m) (get_or a.symbol.now a.k 0)) c.load_of.ensures ∙ admitted_at a.symbol.now a.loads.now a.k g.requires.5,
    )

pub returns : goal.returns
unfolding line_at
returns c =
    let a = c.args in
    c.fill_subcarrier.ensures
    ∙ ap (put_answer a.out.now a.k)
    (c.line_from-line.ensures
    ∙ ap₂ (line_answer (get_or a.symbol.now a.k 0)) c.load_of.ensures c.is_minus.ensures)
