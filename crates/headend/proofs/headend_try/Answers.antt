-- `headend::headend_try` meets its contract. Assumes nothing.
use mathlib.Core.Path.{ap, ◌∙◌}
use native.Mathlib.Omega.{arith}
use Rattle.answers.specs.Answer.{told_count}
use Rattle.answerbytes.proofs.LayoutLaws.{too_short, long_enough}
use Rattle.headend.specs.Calls.{try_call}
use Rattle.headend.proofs.Telling.{told}
use Rattle.headend.proofs.headend_try.Goals as goal

pub returns-then-answer-lt-ANSWER : goal.returns-then-answer-lt-ANSWER
unfolding try_call
returns-then-answer-lt-ANSWER c = too_short c.args.answer.now _ _ c.if-answer-lt-ANSWER.true

pub returns : goal.returns
unfolding try_call
returns c =
    let a = c.args.answer.now in
    told _ a _ _ _ c.tell.ensures.number c.tell.ensures.answer (c.told_count.ensures ∙ ap told_count c.try_numbers.ensures)
    ∙ long_enough a _ _ (omega (arith, c.if-answer-lt-ANSWER.false))
