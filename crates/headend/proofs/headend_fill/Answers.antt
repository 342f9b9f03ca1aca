-- `headend::headend_fill` meets its contract. Assumes nothing.
use native.Mathlib.Omega.{arith}
use mathlib.Core.Path.{◌∙◌}
use Rattle.answerbytes.proofs.LayoutLaws.{too_short, long_enough}
use Rattle.headend.specs.Calls.{fill_call}
use Rattle.headend.proofs.Telling.{fill_told_lem}
use Rattle.headend.proofs.headend_fill.Goals as goal

pub returns-then-answer-lt-ANSWER : goal.returns-then-answer-lt-ANSWER
unfolding fill_call
returns-then-answer-lt-ANSWER c = too_short c.args.answer.now _ _ c.if-answer-lt-ANSWER.true

pub returns : goal.returns
unfolding fill_call
returns c =
    let a = c.args.answer.now in
    fill_told_lem _ a _ _ c.tell.ensures.number c.tell.ensures.answer _ _ _ c.told_count.ensures c.fill.ensures
    ∙ long_enough a _ _ (omega (arith, c.if-answer-lt-ANSWER.false))
