-- `headend::headend_flush` meets its contract. Assumes nothing.
use native.Mathlib.Omega.{arith}
use mathlib.Core.Path.{◌∙◌}
use Rattle.answerbytes.proofs.LayoutLaws.{too_short, long_enough}
use Rattle.headend.specs.Calls.{flush_call}
use Rattle.headend.proofs.Telling.{send_told_lem}
use Rattle.headend.proofs.headend_flush.Goals as goal

pub returns-then-answer-lt-ANSWER : goal.returns-then-answer-lt-ANSWER
unfolding flush_call
returns-then-answer-lt-ANSWER c = too_short c.args.answer.now _ _ c.if-answer-lt-ANSWER.true

pub returns : goal.returns
unfolding flush_call
returns c =
    let a = c.args.answer.now in
    send_told_lem _ a _ _ c.tell.ensures.number c.tell.ensures.answer _ _ _ _ c.told_send.ensures c.flush.ensures
    ∙ long_enough a _ _ (omega (arith, c.if-answer-lt-ANSWER.false))
