-- `headend::headend_modulate` meets its contract. Assumes nothing.
use native.Mathlib.Omega.{arith}
use mathlib.Core.Path.{◌∙◌}
use Rattle.answerbytes.proofs.LayoutLaws.{too_short, long_enough}
use Rattle.headend.specs.Calls.{modulate_call}
use Rattle.headend.proofs.Telling.{modulate_told_lem}
use Rattle.headend.proofs.headend_modulate.Goals as goal

pub returns-then-answer-lt-ANSWER : goal.returns-then-answer-lt-ANSWER
unfolding modulate_call
returns-then-answer-lt-ANSWER c = too_short c.args.answer.now _ _ c.if-answer-lt-ANSWER.true

pub returns : goal.returns
unfolding modulate_call
returns c =
    let a = c.args.answer.now in
    modulate_told_lem _ a _ _ c.tell.ensures.number c.tell.ensures.answer _ _ _ c.told_modulate.ensures c.modulate.ensures
    ∙ long_enough a _ _ (omega (arith, c.if-answer-lt-ANSWER.false))
