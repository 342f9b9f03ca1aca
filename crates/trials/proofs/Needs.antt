-- What is known of an accepted plan when the places of its stores are counted. Assumes nothing.
use Prim.Native.Nat.{ℕ, ◌≤◌, ◌<◌}
use mathlib.Core.Path.{◌≡◌}
use mathlib.Core.List.{List}
use native.Mathlib.Omega.{arith}
use lib.ListN.{length}
use Rattle.std.specs.Prelude.{Ok}
use Rattle.rules.specs.Device.{khz50}
use Rattle.rules.specs.Fits.{capacity}
use Rattle.rules.specs.Plan.{plan_of}
use Rattle.rules.specs.Grounds.{grounds1to15, verdict}
use Rattle.rules.specs.Frame.{frame_of, cells}
use Rattle.facts.proofs.Accepted.{long, depth_in}
use Rattle.verdicts.proofs.Verdicts.{no_ground}
use Rattle.spots.proofs.Frames.{cells_le}
use Rattle.rules.proofs.Answered.{accepted_cells}

-- the plan's bytes s, of N_I n
pub record Counted (s : List ℕ) (n : ℕ) : Type 0 where
  pub whole : 8 ≤ length s
  pub deep : 0 < (plan_of s).depth
  pub shallow : (plan_of s).depth ≤ capacity
  pub all : n ≡ cells (frame_of khz50 (plan_of s))
  pub few : n ≤ capacity

pub counted : (s : List ℕ) (n : ℕ) → Ok n ≡ verdict khz50 s → Counted s n
unfolding frame_of
counted s n e =
    let fine : grounds1to15 khz50 s ≡ Ok tt = no_ground khz50 s n e in
    let depth = depth_in khz50 s fine in
    let all : n ≡ cells (frame_of khz50 (plan_of s)) = accepted_cells khz50 s n e in
    record {
      whole = long khz50 s fine;
      deep = depth.0;
      shallow = omega (arith, depth.1);
      all = all;
      few = omega (arith, all, cells_le (frame_of khz50 (plan_of s)));
    }
