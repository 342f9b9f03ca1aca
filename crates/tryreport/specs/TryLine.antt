-- The line of a trial: as plancheck would print it for the copy (docs/TRYCHECK.md; document 01, "Plan A and its neighbours", last
-- paragraph). Assumes nothing.
use Rattle.std.specs.Prelude.{ℕ, List}
use Rattle.rules.specs.Device.{khz50}
use Rattle.copies.specs.Copy.{copy_with}
use Rattle.exclusion.specs.Trial.{trial_verdict}
use Rattle.report.specs.PlanLine.{line_for}

-- N_I of the copy and its scattered count at phase 0, or number and place of the refusal
unfoldable pub try_line : List ℕ → ℕ → ℕ → List ℕ
try_line s first last = line_for (copy_with s first last) (trial_verdict khz50 s first last)
