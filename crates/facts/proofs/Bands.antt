-- What grounds 10 and 13 leave: a wide band, each of whose long windows has few excluded. Assumes nothing.
use Prim.Native.Nat.{ℕ, suc, ◌+◌, ◌-◌, ◌≤◌, ◌<◌}
use mathlib.Core.Path.{◌≡◌, refl, sym, ap, ◌∙◌}
use mathlib.Core.Bool.{Bool, true, false, true≢false}
use mathlib.Core.List.{[]}
use native.Mathlib.Omega.{arith}
use lib.Dec.{leb, ltb}
use borrow.Author.Tests.{leb-true, ltb-true, ltb-false}
use Rattle.counting.specs.Search.{when, first, is_none}
use Rattle.counting.proofs.Bools.{and_left}
use Rattle.rules.specs.declared.Device.{Device}
use Rattle.rules.specs.Refusals.{Finding}
use Rattle.std.specs.Prelude.{Ok, Option, None}
use Rattle.rules.specs.Plan.{Plan}
use Rattle.rules.specs.Bands.{active, width, starts_band, next_band, band_end, first_band, excluded_in}
use Rattle.rules.specs.Grounds.{◌else◌, ground?, outside, around_plc, pilot_clash, narrow_band, no_wide_band, much_excluded, much_in_band, full_window, many_ranked, grounds6to15}
use Rattle.rules.proofs.Widths.{width_reaches}
use Rattle.rules.proofs.Findings.{both_fine, when_fine}
use Rattle.facts.proofs.Accepted.{ground_none}
use Rattle.counting.proofs.Findings.{when_none, when_some, first_passed, first_found, highest_passes}

-- grounds 10 and 13 of 6 to 15
ten_thirteen : (six seven eight nine ten eleven twelve thirteen later : Finding)
    → (six else seven else eight else nine else ten else eleven else twelve else thirteen else later) ≡ Ok tt → (ten ≡ Ok tt) × (thirteen ≡ Ok tt)
ten_thirteen six seven eight nine ten eleven twelve thirteen later e =
    let from-ten = both_fine ten _ (both_fine nine _ (both_fine eight _ (both_fine seven _ (both_fine six _ e).1).1).1).1 in
    (from-ten.0, (both_fine thirteen _ (both_fine twelve _ (both_fine eleven _ from-ten.1).1).1).0)

-- a band's lowest subcarrier, from which on band_wide subcarriers lie in the band, and each long window inside them has few excluded
pub record Wide (d : Device) (p : Plan) : Type 0 where
  pub from : ℕ
  pub below : from + d.band_wide ≤ d.subcarriers
  pub few : (x : ℕ) → x + d.long_window ≤ d.band_wide → excluded_in p (from + x) d.long_window ≤ d.long_max

module _ (d : Device) (p : Plan) where
  -- the highest subcarrier of a band, where it is not 0, is one of the device
  end_below : (a : ℕ) → 0 < band_end d p a → band_end d p a < d.subcarriers
  unfolding band_end active
  end_below a l = ltb-true _ _ (and_left _ _ (highest_passes (active d p) (next_band d p a) l))

  -- a search f over the bands
  module _ (f : ℕ → ℕ → Option ℕ) where
    -- what f finds at a, if a band starts there
    abbrev at : ℕ → Bool → Option ℕ
    at a b = elim b [ true ↦ f a (band_end d p a) | false ↦ None ]

    -- where f finds nothing, it finds nothing in any band
    bands_passed : is_none (first_band d p f) ≡ true → (a : ℕ) → a < d.subcarriers → starts_band d p a ≡ true → is_none (f a (band_end d p a)) ≡ true
    unfolding first_band
    bands_passed e a l t = sym (ap (λ (b : Bool). is_none (at a b)) t) ∙ first_passed (λ a. at a (starts_band d p a)) d.subcarriers a l e

    -- where f finds something, it does so in some band
    band_found : is_none (first_band d p f) ≡ false → (a : ℕ) × (a < d.subcarriers) × (starts_band d p a ≡ true) × (is_none (f a (band_end d p a)) ≡ false)
    unfolding first_band
    band_found e =
        let r = first_found (λ a. at a (starts_band d p a)) d.subcarriers e in
        go r.0 r.1 (starts_band d p r.0) refl r.2
      where
        go : (a : ℕ) → a < d.subcarriers → (b : Bool) → starts_band d p a ≡ b → is_none (at a b) ≡ false
            → (a : ℕ) × (a < d.subcarriers) × (starts_band d p a ≡ true) × (is_none (f a (band_end d p a)) ≡ false)
        go a l true t g = (a, l, t, g)
        go a l false t g = absurd (true≢false g)

  module _ (wide : 1 < d.band_wide) (fine : grounds6to15 d p ≡ Ok tt) where
    two_fine : (ground? 10 (when (no_wide_band d p) 0) ≡ Ok tt) × (ground? 13 (full_window d p d.long_window d.long_max) ≡ Ok tt)
    unfolding grounds6to15
    two_fine =
        ten_thirteen (ground? 6 (outside d p)) (ground? 7 (around_plc d p)) (ground? 8 (pilot_clash d p [] p.pilots)) (ground? 9 (narrow_band d p)) (ground? 10 (when (no_wide_band d p) 0)) (ground? 11 (when (much_excluded d p) 0))
        (ground? 12 (much_in_band d p)) (ground? 13 (full_window d p d.long_window d.long_max)) (ground? 14 (full_window d p d.short_window d.short_max) else ground? 15 (when (many_ranked d p) 0)) fine

    -- ground 13: a long window that lies wholly inside a band
    windows_few : (a : ℕ) → a < d.subcarriers → starts_band d p a ≡ true → (x : ℕ) → x < suc (suc (band_end d p a)) - a - d.long_window → excluded_in p (a + x) d.long_window ≤ d.long_max
    unfolding full_window
    windows_few a l t x h =
        let f : ℕ → ℕ → Option ℕ = λ a i. when (ltb d.long_max (excluded_in p (a + i) d.long_window)) (a + i) in
        let passed = bands_passed (λ a b. first (f a) (suc (suc b) - a - d.long_window)) (ground_none 13 (full_window d p d.long_window d.long_max) two_fine.1) a l t in
        ltb-false _ _ (when_none _ (a + x) (first_passed (f a) (suc (suc (band_end d p a)) - a - d.long_window) x h passed))

    -- ground 10: some band is wide
    pub wide_band : Wide d p
    unfolding no_wide_band
    wide_band =
        let r = band_found (λ a b. when (leb d.band_wide (width a b)) a) (when_fine 10 0 (no_wide_band d p) two_fine.0) in
        let long : r.0 + d.band_wide ≤ suc (band_end d p r.0) = width_reaches r.0 (band_end d p r.0) d.band_wide wide (leb-true _ _ (when_some _ r.0 r.3)) in
        record {
          from = r.0;
          below = omega (arith, end_below r.0 (omega arith));
          few = λ x h. windows_few r.0 r.1 r.2 x (omega arith);
        }
