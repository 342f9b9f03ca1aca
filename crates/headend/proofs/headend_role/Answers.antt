-- `headend::headend_role` meets its contract. Assumes nothing.
use mathlib.Core.Path.{ap, ◌∙◌}
use native.Mathlib.Omega.{arith}
use Rattle.answers.specs.Answer.{told_role}
use Rattle.answerbytes.proofs.LayoutLaws.{too_short, long_enough}
use Rattle.headend.specs.Calls.{role_call}
use Rattle.headend.proofs.Telling.{told}
use Rattle.headend.proofs.headend_role.Goals as goal

pub returns-then-answer-lt-ANSWER : goal.returns-then-answer-lt-ANSWER
unfolding role_call
returns-then-answer-lt-ANSWER c = too_short c.args.answer.now _ _ c.if-answer-lt-ANSWER.true

pub returns : goal.returns
unfolding role_call
returns c =
    let a = c.args.answer.now in
    told _ a _ _ _ c.tell.ensures.number c.tell.ensures.answer (c.told_role.ensures ∙ ap told_role c.role.ensures)
    ∙ long_enough a _ _ (omega (arith, c.if-answer-lt-ANSWER.false))
