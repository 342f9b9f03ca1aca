-- The frame of an accepted plan is tied to the marks that the judge leaves. Assumes nothing.
use Prim.Native.Nat.{ℕ, ◌+◌}
use mathlib.Core.Path.{refl}
use mathlib.Core.List.{List}
use native.Mathlib.Omega.{arith}
use Rattle.counting.specs.Search.{is_zero}
use Rattle.rules.specs.declared.Device.{Device}
use Rattle.rules.specs.Plan.{Plan}
use Rattle.rules.specs.Roles.{scattered_at}
use Rattle.rules.specs.Fits.{Fits}
use Rattle.rules.specs.Frame.{frame_of}
use Rattle.marks.specs.Marked.{Marked}
use Rattle.marks.proofs.Marks.{zero_ranked}
use Rattle.spots.specs.Tied.{Tied, Turning}

pub tied_of : (d : Device) (p : Plan) (m : List ℕ) → Fits d → Marked d p m → Tied (frame_of d p) m
unfolding frame_of is_zero
tied_of d p m fits w = record {
  few = fits.few;
  long = omega (arith, fits.few, w.long);
  ranks = zero_ranked d p m w;
  marks = λ k l e. w.cell k l;
}

pub turning_of : (d : Device) (p : Plan) → Turning (frame_of d p) (p.plc + d.plc_width)
unfolding frame_of scattered_at
turning_of d p = record { period = refl; pattern = λ j k. refl }
