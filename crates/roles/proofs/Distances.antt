-- The distance of a predefined pilot from the PLC, on any device that fits. Assumes nothing.
use Prim.Native.Nat.{ℕ, ◌+◌, ◌-◌, ◌≤◌, ◌<◌}
use mathlib.Core.Path.{◌≡◌, refl, sym, subst}
use mathlib.Core.Logic.{inl, inr}
use mathlib.Core.Bool.{true}
use native.Mathlib.Omega.{arith}
use borrow.Author.Tests.{eq-eqb}
use Rattle.rules.specs.declared.Device.{Device}
use Rattle.rules.specs.Roles.{one_of, predefined}
use Rattle.rules.specs.Fits.{Fits}
use Rattle.roles.proofs.Eight.{away, Sided, sided, eight_long, place, one_at}

-- each of the four is one of them
away_one : (d : Device) → Fits d → (n : ℕ) → n < 4 → one_of (away d n) d.distances ≡ true
away_one d fits n h = one_at d.distances n (away d n) (omega (arith, fits.four)) (eq-eqb (away d n) (away d n) refl)

module _ (d : Device) (l k : ℕ) (fits : Fits d) (low : d.low_plc ≤ l) (is : one_of k (predefined d l) ≡ true) where
  on_side : Sided d l k
  on_side =
      let w = place (predefined d l) k is in
      subst (Sided d l) (sym w.is) (sided d l fits low w.at (omega (arith, w.inside, eight_long d l fits)))

  -- below L it lies at one of the distances below it
  pub pilot_below : k < l → (one_of (l - k) d.distances ≡ true) × (k + (l - k) ≡ l)
  pilot_below h = (go on_side, omega arith)
    where
      go : Sided d l k → one_of (l - k) d.distances ≡ true
      go (inl (n, few, e)) =
          let same : away d n ≡ l - k = omega (arith, (fits.near n few).1, fits.plc_low) in
          subst (λ (x : ℕ). one_of x d.distances ≡ true) same (away_one d fits n few)
      go (inr (n, few, e)) = absurd (omega (arith, (fits.near n few).0, fits.plc_some))

  -- else at one of the distances above the last PLC subcarrier
  pub pilot_above : l ≤ k → (one_of (k - (l + d.plc_width - 1)) d.distances ≡ true) × (k ≡ l + d.plc_width - 1 + (k - (l + d.plc_width - 1)))
  pilot_above h = go on_side
    where
      go : Sided d l k → (one_of (k - (l + d.plc_width - 1)) d.distances ≡ true) × (k ≡ l + d.plc_width - 1 + (k - (l + d.plc_width - 1)))
      go (inl (n, few, e)) = absurd (omega (arith, (fits.near n few).0, (fits.near n few).1, fits.plc_low))
      go (inr (n, few, e)) =
          let same : away d n ≡ k - (l + d.plc_width - 1) = omega arith in
          (subst (λ (x : ℕ). one_of x d.distances ≡ true) same (away_one d fits n few), omega arith)

  -- above the whole PLC
  pub pilot_past : l ≤ k → l + d.plc_width ≤ k
  pilot_past h = go on_side
    where
      go : Sided d l k → l + d.plc_width ≤ k
      go (inl (n, few, e)) = absurd (omega (arith, (fits.near n few).0, (fits.near n few).1, fits.plc_low))
      go (inr (n, few, e)) = omega (arith, (fits.near n few).0, fits.plc_some)
