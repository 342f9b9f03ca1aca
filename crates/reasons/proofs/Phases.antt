-- The one phase at which a scattered pilot stands at a subcarrier. Assumes nothing.
use Prim.Native.Nat.{ℕ, ◌+◌, ◌<◌}
use mathlib.Core.Path.{◌≡◌, refl, sym, ap, ◌∙◌}
use mathlib.Core.Bool.{Bool, true, false}
use Rattle.std.specs.Prelude.{Option, unwrap_or}
use mathlib.Core.List.{List}
use native.Mathlib.Omega.{arith}
use lib.Dec.{eqb}
use borrow.Author.Tests.{eqb-true, eq-eqb, ne_eqb}
use Rattle.counting.specs.Search.{pick}
use Rattle.counting.proofs.Searches.{lowest_at}
use Rattle.rules.specs.declared.Device.{Device}
use Rattle.rules.specs.declared.Role.TheVariants.{Scattered, Data}
use Rattle.rules.specs.Device.{phases}
use Rattle.rules.specs.Plan.{plan_of}
use Rattle.rules.specs.Roles.{scattered_at, role, ranked}
use Rattle.rules.specs.Frame.{frame_of}
use Rattle.frame.specs.Counted.{is_scattered}
use Rattle.facts.proofs.Framed.{by_rank}
use Rattle.pattern.specs.Until.{symbols_until}
use Rattle.pattern.proofs.Once.{once, until_below}
use Rattle.reasons.specs.Reasons.{scattered_phase}
use Rattle.reasons.specs.Claims.{OnePhase}

scattered_test : (b : Bool) → is_scattered (pick b Scattered Data) ≡ b
scattered_test true = refl
scattered_test false = refl

module _ (d : Device) (s : List ℕ) (k : ℕ) (below : k < d.subcarriers) (has-rank : ranked d (plan_of s) k ≡ true) where
  -- as the code finds it
  abbrev pub one_phase : ℕ
  one_phase = symbols_until ((plan_of s).plc + d.plc_width) k

  role_by : (q : ℕ) → role d (plan_of s) q k ≡ pick (scattered_at d (plan_of s) q k) Scattered Data
  unfolding frame_of
  role_by q = (by_rank d (plan_of s)).role_is q k below has-rank

  pub pattern_is : (q : ℕ) → q < phases → scattered_at d (plan_of s) q k ≡ eqb q one_phase
  unfolding scattered_at
  pattern_is q h = once ((plan_of s).plc + d.plc_width) k q h

  role_at : (q : ℕ) → q < phases → role d (plan_of s) q k ≡ pick (eqb q one_phase) Scattered Data
  role_at q h = role_by q ∙ ap (λ (b : Bool). pick b Scattered Data) (pattern_is q h)

  test_at : (q : ℕ) → q < phases → is_scattered (role d (plan_of s) q k) ≡ eqb q one_phase
  test_at q h = ap is_scattered (role_at q h) ∙ scattered_test (eqb q one_phase)

  one_below : one_phase < phases
  one_below = until_below ((plan_of s).plc + d.plc_width) k

  pub scattered_phase_is : scattered_phase d s k ≡ one_phase
  unfolding scattered_phase
  scattered_phase_is =
      ap (λ (o : Option ℕ). unwrap_or o 0)
      (lowest_at (λ q. is_scattered (role d (plan_of s) q k)) one_phase phases one_below
      (test_at one_phase one_below ∙ eq-eqb one_phase one_phase refl)
      (λ q _ l. test_at q (omega (arith, one_below)) ∙ ne_eqb q one_phase (λ e. omega arith)))

  pub one_phase_lem : OnePhase d s k one_phase
  one_phase_lem = record {
    phase = one_below;
    scattered = role_at one_phase one_below ∙ ap (λ (b : Bool). pick b Scattered Data) (eq-eqb one_phase one_phase refl);
    only = λ j h e. eqb-true j one_phase (sym (test_at j h) ∙ ap is_scattered e);
    else_data = λ j h e. role_at j h ∙ ap (λ (b : Bool). pick b Scattered Data) (ne_eqb j one_phase e);
  }
