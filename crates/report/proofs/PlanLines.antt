-- The line of a plan from what the judge answers. Assumes nothing.
use mathlib.Core.Path.{◌≡◌, sym, ap, ◌∙◌, subst}
use mathlib.Core.List.{List}
use Prim.Native.Nat.{ℕ}
use native.Mathlib.Omega.{arith}
use Rattle.rules.specs.declared.Refusal.{Refusal}
use Rattle.rules.specs.Refusals.{CountAnswer}
use Rattle.std.specs.Prelude.{Ok, Err}
use Rattle.rules.specs.Device.{khz50}
use Rattle.rules.specs.Grounds.{verdict}
use Rattle.rules.specs.Answers.{scattered_answer}
use Rattle.judge.proofs.EntryAnswers.{count_left}
use Rattle.text.specs.Text.{ok_line}
use Rattle.report.specs.PlanLine.{line_for, plan_line}

count_of : CountAnswer → ℕ
count_of (Ok n) = n
count_of (Err r) = 0

IsCount : CountAnswer → Type 0
IsCount (Ok n) = Unit {0}
IsCount (Err r) = ⊥

module _ (s : List ℕ) where
  pub ok_plan : (n c : ℕ) → Ok n ≡ verdict khz50 s → Ok c ≡ scattered_answer khz50 s 0 → ok_line n c ≡ plan_line s
  unfolding plan_line line_for count_of
  ok_plan n c e f = ap (ok_line n) (ap count_of (f ∙ sym (count_left khz50 s 0 n e (omega arith)))) ∙ ap (line_for s) e

  -- an accepted plan is not refused at phase 0
  pub not_refused : (n : ℕ) (r : Refusal) → Ok n ≡ verdict khz50 s → Err r ≡ scattered_answer khz50 s 0 → ⊥
  unfolding IsCount
  not_refused n r e f = subst IsCount (count_left khz50 s 0 n e (omega arith) ∙ sym f) tt
