-- What a trial leaves where the copy was asked for. Assumes nothing.
use Rattle.std.specs.Prelude.{ℕ, ◌≤◌, ◌≡◌, List, length, take, Ok, Err}
use Rattle.rules.specs.declared.Device.{Device}
use Rattle.rules.specs.Refusals.{Verdict}
use Rattle.rules.specs.Grounds.{grounds1to5}
use Rattle.copies.specs.Copy.{copy_with}

-- the first n bytes are the copy of the plan s that also excludes first to last
pub record Copied (n : ℕ) (d : Device) (s : List ℕ) (first last : ℕ) (bytes : List ℕ) : Type 0 where
  pub fine : grounds1to5 d s ≡ Ok tt
  pub copy : take n bytes ≡ copy_with s first last
  pub few : n ≤ length bytes

-- so it is where the trial is accepted
abbrev pub CopiedIf : Verdict → ℕ → Device → List ℕ → ℕ → ℕ → List ℕ → Type 0
CopiedIf (Ok k) n d s first last bytes = Copied n d s first last bytes
CopiedIf (Err r) n d s first last bytes = Unit {0}
