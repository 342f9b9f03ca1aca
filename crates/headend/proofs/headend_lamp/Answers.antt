-- `headend::headend_lamp` meets its contract. Assumes nothing.
use native.Mathlib.Omega.{arith}
use mathlib.Core.Path.{◌∙◌}
use Rattle.answerbytes.proofs.LayoutLaws.{too_short, long_enough}
use Rattle.headend.specs.Calls.{lamp_call}
use Rattle.headend.proofs.Telling.{lamp_told_lem}
use Rattle.headend.proofs.headend_lamp.Goals as goal

pub returns-then-answer-lt-ANSWER : goal.returns-then-answer-lt-ANSWER
unfolding lamp_call
returns-then-answer-lt-ANSWER c = too_short c.args.answer.now _ _ c.if-answer-lt-ANSWER.true

pub returns : goal.returns
unfolding lamp_call
returns c =
    let a = c.args.answer.now in
    lamp_told_lem _ a _ _ c.tell.ensures.number c.tell.ensures.answer _ _ _ _ c.told_count.ensures c.lamp.ensures
    ∙ long_enough a _ _ (omega (arith, c.if-answer-lt-ANSWER.false))
