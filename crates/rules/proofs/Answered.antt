-- What an answer says of its finding; an accepted plan is accepted with N_I. Assumes nothing.
use Prim.Native.Nat.{ℕ}
use mathlib.Core.Path.{◌≡◌, refl}
use mathlib.Core.List.{List}
use native.Mathlib.Omega.{arith}
use Rattle.rules.specs.declared.Device.{Device}
use Rattle.rules.specs.Refusals.{Finding, refused_by}
use Rattle.std.specs.Prelude.{Ok, Err}
use Rattle.rules.specs.Plan.{plan_of}
use Rattle.rules.specs.Roles.{ranked_count}
use Rattle.rules.specs.Grounds.{answer, grounds1to15, verdict}
use Rattle.rules.specs.Frame.{frame_of, cells}

pub accepted_is : (f : Finding) (n m : ℕ) → Ok n ≡ answer f m → (f ≡ Ok tt) × (n ≡ m)
accepted_is (Ok tt) n m e = (refl, cc)
accepted_is (Err r) n m e = let z : ◌≡◌ {A = ℕ} 0 1 = cc in absurd (omega arith)

pub refused_is : (f : Finding) (g k m : ℕ) → refused_by g k ≡ answer f m → f ≡ refused_by g k
refused_is (Ok tt) g k m e = let z : ◌≡◌ {A = ℕ} 0 1 = cc in absurd (omega arith)
refused_is (Err r) g k m e = cc

pub accepted_cells : (d : Device) (s : List ℕ) (n : ℕ) → Ok n ≡ verdict d s → n ≡ cells (frame_of d (plan_of s))
unfolding verdict cells frame_of ranked_count
accepted_cells d s n e = (accepted_is (grounds1to15 d s) n (ranked_count d (plan_of s)) e).1
