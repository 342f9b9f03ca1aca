-- Band j as the code reads it, and a search over the bands one after the other. Assumes nothing.
use mathlib.Core.Path.{◌≡◌, sym, ap₂, ◌∙◌}
use Rattle.std.specs.Prelude.{Option, Some, None}
use mathlib.Core.List.{List}
use Prim.Native.Nat.{ℕ, ◌+◌, ◌≤◌, ◌<◌}
use native.Mathlib.Omega.{arith}
use lib.ListN.{get_or}
use Rattle.counting.specs.Search.{first}
use Rattle.counting.proofs.Searches.{first_zero, search_on, search_here}
use Rattle.rules.specs.declared.Device.{Device}
use Rattle.rules.specs.Plan.{Plan}
use Rattle.rules.specs.Fits.{Fits}
use Rattle.bands.specs.BandList.{BandList}
use Rattle.limits.specs.BandAt.{BandAt}
use Rattle.limits.specs.Answers.{at_band}

pub band_read : (d : Device) (p : Plan) (a b c x : List ℕ) (m j low high from to : ℕ) → Fits d → BandList d p a b c x m → j < m
    → low ≡ get_or a j 0 → high ≡ get_or b j 0 → from ≡ get_or c j 0 → to ≡ get_or c (j + 1) 0 → BandAt p a b x j low high from to
band_read d p a b c x m j low high from to fit l w e f g h = record {
  lowest = e;
  highest = f;
  singles = rw (e, f, g, h) (l.each j w);
  below = omega (arith, l.below j w, fit.few);
  few = omega (arith, l.few j w, fit.few);
}

-- what a loop over the bands keeps: f finds nothing in the bands before band j
pub record Searched (f : ℕ → ℕ → Option ℕ) (a b : List ℕ) (m j : ℕ) : Type 0 where
  pub inside : j ≤ m
  pub nothing : first (at_band f a b) j ≡ None

module _ {f : ℕ → ℕ → Option ℕ} {a b : List ℕ} {m : ℕ} where
  pub search_start : Searched f a b m 0
  search_start = record { inside = omega arith; nothing = first_zero (at_band f a b) }

  -- f finds k in band j, low to high
  pub search_found : {j low high k : ℕ} → Searched f a b m j → j < m → low ≡ get_or a j 0 → high ≡ get_or b j 0 → f low high ≡ Some k → Some k ≡ first (at_band f a b) m
  search_found {j} {low} {high} {k} s w e g h = sym (search_here (at_band f a b) j m k w s.nothing (ap₂ f (sym e) (sym g) ∙ h))

  -- f finds nothing in band j
  pub search_passed : {j low high : ℕ} → Searched f a b m j → j < m → low ≡ get_or a j 0 → high ≡ get_or b j 0 → f low high ≡ None → Searched f a b m (j + 1)
  search_passed {j} s w e g h = record { inside = omega arith; nothing = search_on (at_band f a b) j s.nothing (ap₂ f (sym e) (sym g) ∙ h) }
