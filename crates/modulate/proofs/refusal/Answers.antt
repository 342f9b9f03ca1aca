-- `modulate::refusal` meets its contract. Assumes nothing.
use mathlib.Core.Path.{◌≡◌, sym, ap, ap₂, ◌∙◌}
use lib.ListN.{get_or}
use Rattle.modulator.specs.Lines.{line_answer}
use Rattle.modulator.specs.Symbols.{refused_at, line_at}
use Rattle.modulate.proofs.refusal.Goals as goal
use Rattle.modulate.proofs.refusal.Goals.{After-on_line}

-- the answer is what stands on the line at subcarrier k
known : (c : After-on_line) → let a = c.args in c.on_line.result ≡ line_at a.symbol.now a.loads.now a.minus.now a.k
unfolding line_at
known c =
    let a = c.args in
    c.on_line.ensures.answer
    ∙ ap₂ (line_answer (get_or a.symbol.now a.k 0)) c.load_of.ensures c.is_minus.ensures

pub returns-in-Ok : goal.returns-in-Ok
returns-in-Ok c = ap (refused_at c.args.k) (sym c.in-Ok.is ∙ known (goal.at.returns-in-Ok c).After-on_line)

pub returns-in-Err : goal.returns-in-Err
returns-in-Err c = ap (refused_at c.args.k) (sym c.in-Err.is ∙ known (goal.at.returns-in-Err c).After-on_line)
