-- The line of a trial from its verdict, or from the line of the copy. Assumes nothing.
use mathlib.Core.Path.{◌≡◌, sym, ap, ◌∙◌}
use mathlib.Core.List.{List}
use Prim.Native.Nat.{ℕ}
use Rattle.rules.specs.declared.Device.{Device}
use Rattle.rules.specs.declared.Refusal.{Refusal}
use Rattle.std.specs.Prelude.{Ok, Err}
use Rattle.rules.specs.Device.{khz50}
use Rattle.rules.specs.Grounds.{grounds1to5, verdict}
use Rattle.copies.specs.Copy.{copy_with}
use Rattle.exclusion.specs.Trial.{trial_verdict}
use Rattle.exclusion.proofs.Trials.{trial_copy}
use Rattle.text.specs.Text.{refused_line}
use Rattle.report.specs.PlanLine.{line_for, plan_line}
use Rattle.tryreport.specs.TryLine.{try_line}

module _ (d : Device) (is : d ≡ khz50) (s : List ℕ) (a b : ℕ) where
  -- of a refusal
  pub refused_try : (r : Refusal) → Err r ≡ trial_verdict d s a b → refused_line r.number r.place ≡ try_line s a b
  unfolding try_line line_for
  refused_try r e = ap (line_for (copy_with s a b)) (e ∙ ap (λ (x : Device). trial_verdict x s a b) is)

  module _ (fine : grounds1to5 d s ≡ Ok tt) where
    fine_50 : grounds1to5 khz50 s ≡ Ok tt
    fine_50 = sym (ap (λ (x : Device). grounds1to5 x s) is) ∙ fine

    -- of the copy
    pub copy_line : plan_line (copy_with s a b) ≡ try_line s a b
    unfolding try_line plan_line
    copy_line = ap (line_for (copy_with s a b)) (sym (trial_copy khz50 s a b fine_50))

    -- N_I of an accepted trial is that of the copy
    pub copy_accepted : (n : ℕ) → Ok n ≡ trial_verdict d s a b → Ok n ≡ verdict khz50 (copy_with s a b)
    copy_accepted n t = t ∙ trial_copy d s a b fine ∙ ap (λ (x : Device). verdict x (copy_with s a b)) is
