-- What is known of a plan once it is accepted. Assumes nothing.
use Rattle.std.specs.Prelude.{List, ℕ, ◌≤◌, length, Ok, Err}
use Rattle.rules.specs.declared.Device.{Device}
use Rattle.rules.specs.Refusals.{Verdict}
use Rattle.rules.specs.Plan.{plan_of}
use Rattle.marks.specs.Marked.{Marked}

-- an accepted plan has a record 0 whose L is in its range, and m holds its marks
pub record Studied (d : Device) (s : List ℕ) (m : List ℕ) : Type 0 where
  pub long : 8 ≤ length s
  pub plc_low : d.low_plc ≤ (plan_of s).plc
  pub plc_high : (plan_of s).plc ≤ d.high_plc
  pub marked : Marked d (plan_of s) m

-- the same, where the verdict is accepted
abbrev pub StudiedIf : Verdict → Device → List ℕ → List ℕ → Type 0
StudiedIf (Ok n) d s m = Studied d s m
StudiedIf (Err r) d s m = Unit {0}
