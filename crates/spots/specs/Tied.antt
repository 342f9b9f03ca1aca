-- What ties a frame to the loops: an array of marks that is 0 where a subcarrier has a rank, and a scattered pattern that moves up by one
-- subcarrier a phase. Assumes nothing.
use Rattle.std.specs.Prelude.{ℕ, ◌+◌, ◌%◌, ◌≤◌, ◌<◌, ◌≡◌, false, List, eqb, length, get_or}
use Rattle.counting.specs.Search.{is_zero}
use Rattle.rules.specs.Device.{phases}
use Rattle.rules.specs.Fits.{capacity}
use Rattle.rules.specs.Frame.{Frame}

-- m begins with the marks of the subcarriers
pub record Tied (F : Frame) (m : List ℕ) : Type 0 where
  pub few : F.width ≤ capacity
  pub long : F.width ≤ length m
  pub ranks : (k : ℕ) → k < F.width → is_zero m k ≡ F.ranked k
  pub marks : (k : ℕ) → k < F.width → F.ranked k ≡ false → get_or m k 0 ≡ F.mark k

-- at phase 0 the pattern stands on the subcarriers that are base modulo 128
pub record Turning (F : Frame) (base : ℕ) : Type 0 where
  pub period : F.phases ≡ phases
  pub pattern : (j k : ℕ) → F.pattern j k ≡ eqb (k % phases) ((base + j) % phases)
