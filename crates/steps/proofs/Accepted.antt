-- What is known of an accepted plan and of its cells. Assumes nothing.
use mathlib.Core.Path.{◌≡◌, sym, ap, ◌∙◌, subst}
use mathlib.Core.List.{List}
use Prim.Native.Nat.{ℕ, ◌≤◌}
use native.Mathlib.Omega.{arith}
use Rattle.rules.specs.declared.Device.{Device}
use Rattle.rules.specs.Refusals.{Verdict}
use Rattle.std.specs.Prelude.{Ok}
use Rattle.rules.specs.Device.{khz50, phases}
use Rattle.rules.specs.Fits.{Fits}
use Rattle.rules.specs.Plan.{Plan}
use Rattle.rules.specs.Grounds.{verdict}
use Rattle.rules.specs.Frame.{frame_of, cells}
use Rattle.rules.proofs.Sizes.{khz50_fits}
use Rattle.verdicts.specs.Studied.{Studied, StudiedIf}
use Rattle.verdicts.proofs.Verdicts.{no_ground}
use Rattle.spots.proofs.Frames.{cells_le}
use Rattle.rules.proofs.Answered.{accepted_cells}
use Rattle.facts.proofs.Accepted.{depth_in}
use Rattle.steps.specs.Ready.{Ready}

-- N_I is at most the places of an array
pub cells_low : (d : Device) (p : Plan) → Fits d → cells (frame_of d p) ≤ 4096
unfolding frame_of
cells_low d p f = omega (arith, cells_le (frame_of d p), f.few)

-- an accepted plan is ready for the steps
pub ready : (d : Device) (s : List ℕ) (n : ℕ) (m : List ℕ) → Fits d → d.depth_max ≤ phases → Ok n ≡ verdict d s → Studied d s m → Ready d s n m
ready d s n m fits deep e w =
    let fine = no_ground d s n e in
    let depth = depth_in d s fine in
    record { fits = fits; fine = fine; deep = depth.0; shallow = omega (arith, depth.1, deep); all = accepted_cells d s n e; studied = w }

-- what is known where the 50 kHz device has studied the plan
pub khz50-ready : (d : Device) (s : List ℕ) (n : ℕ) (m : List ℕ) (r : Verdict) → d ≡ khz50 → r ≡ Ok n → r ≡ verdict d s → StudiedIf r d s m → Ready d s n m
khz50-ready d s n m r is told e w =
    ready d s n m (subst Fits (sym is) khz50_fits) (omega (arith, ap (λ (x : Device). x.depth_max) is)) (sym told ∙ e) (subst (λ (v : Verdict). StudiedIf v d s m) told w)
