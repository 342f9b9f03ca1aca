-- `headend::headend_judge` meets its contract. Assumes nothing.
use mathlib.Core.Path.{ap, ◌∙◌}
use native.Mathlib.Omega.{arith}
use Rattle.answers.specs.Answer.{told_count}
use Rattle.answerbytes.proofs.LayoutLaws.{too_short, long_enough}
use Rattle.headend.specs.Calls.{judge_call}
use Rattle.headend.proofs.Telling.{told}
use Rattle.headend.proofs.headend_judge.Goals as goal

pub returns-then-answer-lt-ANSWER : goal.returns-then-answer-lt-ANSWER
unfolding judge_call
returns-then-answer-lt-ANSWER c = too_short c.args.answer.now _ _ c.if-answer-lt-ANSWER.true

pub returns : goal.returns
unfolding judge_call
returns c =
    let a = c.args.answer.now in
    told _ a _ _ _ c.tell.ensures.number c.tell.ensures.answer (c.told_count.ensures ∙ ap told_count c.judge.ensures)
    ∙ long_enough a _ _ (omega (arith, c.if-answer-lt-ANSWER.false))
