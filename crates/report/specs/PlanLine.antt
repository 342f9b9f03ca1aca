-- The line of a plan (document 01, "Plan A and its neighbours", last paragraph). Assumes nothing.
use Rattle.std.specs.Prelude.{ℕ, List, Ok, Err}
use Rattle.rules.specs.Refusals.{Verdict}
use Rattle.rules.specs.Device.{khz50}
use Rattle.rules.specs.Plan.{plan_of}
use Rattle.rules.specs.Roles.{scattered_count}
use Rattle.rules.specs.Grounds.{verdict}
use Rattle.text.specs.Text.{ok_line, refused_line}

-- the line of a verdict on the plan s: N_I and the scattered count at phase 0, or number and place
unfoldable pub line_for : List ℕ → Verdict → List ℕ
line_for s (Ok n) = ok_line n (scattered_count khz50 (plan_of s) 0)
line_for s (Err r) = refused_line r.number r.place

unfoldable pub plan_line : List ℕ → List ℕ
plan_line s = line_for s (verdict khz50 s)
