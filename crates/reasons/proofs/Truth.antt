-- Every reason is true. Assumes nothing.
use Prim.Native.Nat.{ℕ, ◌/◌, ◌<◌}
use mathlib.Core.Path.{◌≡◌, refl, sym, ap, ◌∙◌, subst}
use mathlib.Core.Logic.{inl, inr}
use mathlib.Core.Bool.{Bool, true, false, ◌&&◌, ◌||◌}
use mathlib.Core.List.{List}
use lib.ListN.{length}
use borrow.Author.Tests.{eqb-true, eqb-false}
use Rattle.counting.proofs.Bools.{Less, decide, by_test}
use Rattle.rules.specs.declared.Device.{Device}
use Rattle.std.specs.Prelude.{Ok, IsOkAnd}
use Rattle.rules.specs.Refusals.{WhyAnswer}
use Rattle.rules.specs.Device.{phases}
use Rattle.rules.specs.Plan.{Entry, Plan, plan_of, chain, entry, is_range, is_pilot}
use Rattle.rules.specs.Bands.{any, covers, excluded}
use Rattle.rules.specs.Roles.{one_of, predefined, names, in_plc, continuous, scattered_at, role, ranked, first_role}
use Rattle.rules.specs.Grounds.{grounds1to15}
use Rattle.rules.specs.Fits.{Fits}
use Rattle.facts.proofs.Accepted.{long, plc_record, plc_in}
use Rattle.facts.proofs.Framed.{free_ranked}
use Rattle.roles.proofs.Distances.{pilot_below, pilot_above}
use Rattle.verdicts.proofs.Verdicts.{no_ground}
use Rattle.chains.proofs.Steps.{chain_starts}
use Rattle.reasons.specs.Reasons.{excludes, makes_pilot, first_record, distance_reason, pilot_reason, scattered_phase, with_reason}
use Rattle.reasons.specs.Claims.{FirstOn, puts_plc, OnePhase, Holds, WhyClaims}
use Rattle.reasons.proofs.Firsts.{on_here, first_from, any_only}
use Rattle.reasons.proofs.Phases.{one_phase, pattern_is, scattered_phase_is, one_phase_lem}
use Rattle.reasons.proofs.Answers.{below_is, above_is, predefined_is, further_is, same_role, why_answered}

module _ (d : Device) (fits : Fits d) (s : List ℕ) (fine : grounds1to15 d s ≡ Ok tt) (k j : ℕ) (below : k < d.subcarriers) (phase : j < phases) where
  abbrev p : Plan
  p = plan_of s

  -- ---- records

  first_on : (t : Entry → Bool) → any t (chain s) ≡ true → FirstOn s t (chain s) (first_record t s)
  unfolding first_record chain
  first_on t h = first_from t s (length s / 8) (length s / 8) 0 h

  excluded_by : excluded p k ≡ true → FirstOn s (excludes k) (chain s) (first_record (excludes k) s)
  unfolding excluded plan_of
  excluded_by h = first_on (excludes k) (sym (any_only is_range (covers k) (chain s)) ∙ h)

  named_by : any (names k) p.pilots ≡ true → FirstOn s (makes_pilot k) (chain s) (first_record (makes_pilot k) s)
  unfolding plan_of
  named_by h = first_on (makes_pilot k) (sym (any_only is_pilot (names k) (chain s)) ∙ h)

  puts_plc_lem : in_plc d p k ≡ true → puts_plc d k (entry s 0) ≡ true
  unfolding in_plc plan_of entry
  puts_plc_lem h = ap (λ (b : Bool). b && in_plc d p k) (plc_record d s fine) ∙ h

  plc_by : in_plc d p k ≡ true → FirstOn s (puts_plc d k) (chain s) 0
  plc_by h =
      let c = chain_starts s (long d s fine) in
      subst (λ (es : List Entry). FirstOn s (puts_plc d k) es 0) (sym c.1) (on_here (puts_plc d k) s 0 c.0 (puts_plc_lem h))

  -- ---- distances

  distance_true : one_of k (predefined d p.plc) ≡ true → Holds d s k j (distance_reason d s k)
  distance_true h = go (decide k p.plc)
    where
      go : Less k p.plc → Holds d s k j (distance_reason d s k)
      go (inl (l, e)) = rw (below_is d s k e) (pilot_below d p.plc k fits (plc_in d s fine).0 h l)
      go (inr (l, e)) = rw (above_is d s k e) (pilot_above d p.plc k fits (plc_in d s fine).0 h l)

  pilot_true : continuous d p k ≡ true → Holds d s k j (pilot_reason d s k)
  unfolding continuous
  pilot_true h =
      by_test (one_of k (predefined d p.plc))
      (λ e. rw (predefined_is d s k e) (distance_true e))
      (λ e. rw (further_is d s k e) (named_by (sym (ap (λ (b : Bool). b || any (names k) p.pilots) e) ∙ h)))

  -- ---- phases

  scattered_true : (r : ranked d p k ≡ true) → scattered_at d p j k ≡ true → OnePhase d s k j
  scattered_true r e =
      subst (OnePhase d s k) (sym (eqb-true j (one_phase d s k below r) (sym (pattern_is d s k below r j phase) ∙ e))) (one_phase_lem d s k below r)

  data_true : (r : ranked d p k ≡ true) → scattered_at d p j k ≡ false → (scattered_phase d s k ≡ j → ⊥) × OnePhase d s k (scattered_phase d s k)
  data_true r e =
      rw (scattered_phase_is d s k below r)
      (λ q. eqb-false j (one_phase d s k below r) (sym (pattern_is d s k below r j phase) ∙ e) (sym q), one_phase_lem d s k below r)

  -- ---- the role

  holds : (a b c e : Bool) → excluded p k ≡ a → in_plc d p k ≡ b → continuous d p k ≡ c → scattered_at d p j k ≡ e → Holds d s k j (with_reason d s k j (first_role a b c e))
  unfolding with_reason
  holds true b c e w x y z = excluded_by w
  holds false true c e w x y z = (refl, plc_by x)
  holds false false true e w x y z = pilot_true y
  holds false false false true w x y z = (refl, scattered_true (free_ranked d p k below w x y) z)
  holds false false false false w x y z = data_true (free_ranked d p k below w x y) z

  role_holds : Holds d s k j (with_reason d s k j (role d p j k))
  unfolding role
  role_holds = holds (excluded p k) (in_plc d p k) (continuous d p k) (scattered_at d p j k) refl refl refl refl

pub why_claims : (d : Device) → Fits d → (s : List ℕ) (k j : ℕ) → WhyClaims d s k j
why_claims d fits s k j = record {
  same_role = same_role d s k j;
  true_reason = λ n e l h.
      let fine = no_ground d s n (sym e) in
      subst (λ (a : WhyAnswer). IsOkAnd a (Holds d s k j)) (sym (why_answered d s k j fine l h)) (role_holds d fits s fine k j l h);
}
