-- What is claimed of the continuous pilots holds of every device that fits, whose distances rise, and any bytes as a plan. Assumes nothing.
use Prim.Native.Nat.{ℕ, suc, ◌<◌}
use mathlib.Core.Path.{◌≡◌, refl, sym, ap, ◌∙◌}
use mathlib.Core.Logic.{by_cases}
use mathlib.Core.Bool.{Bool, true, false}
use mathlib.Core.List.{List}
use native.Mathlib.Decide.{dec_lt}
use native.Mathlib.Omega.{arith}
use lib.Dec.{eqb}
use lib.ListN.{length, get_or}
use borrow.Author.Tests.{eq-eqb}
use Rattle.counting.specs.Search.{count, those, select}
use Rattle.counting.proofs.Bools.{conflict}
use Rattle.counting.proofs.Laws.{count_lt, those_at, length_those}
use Rattle.counting.proofs.Searches.{count_up}
use Rattle.counting.proofs.Select.{Selected, selected}
use Rattle.rules.specs.declared.Device.{Device}
use Rattle.rules.specs.declared.Role.{Role}
use Rattle.rules.specs.declared.Role.TheVariants.{Excluded, Plc, Continuous, Scattered, Data}
use Rattle.rules.specs.Fits.{Fits}
use Rattle.rules.specs.Plan.{Plan, plan_of}
use Rattle.rules.specs.Bands.{excluded}
use Rattle.rules.specs.Roles.{one_of, in_plc, continuous, continuous_mark, first_mark, first_role, mark, scattered_at, role}
use Rattle.verdicts.proofs.Verdicts.{no_ground}
use Rattle.roles.proofs.Eight.{place, one_at}
use Rattle.pilots.specs.Pilots.{is_continuous, continuous_pilots}
use Rattle.pilots.specs.Claims.{Rising, PilotClaims}
use Rattle.pilots.proofs.Numbers.{few, number}

-- ---- those that pass, as a list

module _ (t : ℕ → Bool) (n : ℕ) where
  -- what stands at place i of the list
  at_place : (i : ℕ) → i < length (those t 0 n) → Selected t n i (get_or (those t 0 n) i 0)
  at_place i h = let r = selected t n i (omega (arith, length_those t n)) in unfold select in r

  in_list : (k : ℕ) → k < n → t k ≡ true → one_of k (those t 0 n) ≡ true
  in_list k h e =
      let c = count_lt t k n h e in
      one_at (those t 0 n) (count t k) k (omega (arith, length_those t n)) (eq-eqb k (get_or (those t 0 n) (count t k) 0) (sym (those_at t n k h e)))

  from_list : (k : ℕ) → one_of k (those t 0 n) ≡ true → (k < n) × (t k ≡ true)
  from_list k h =
      let w = place (those t 0 n) k h in
      let r = at_place w.at w.inside in
      (omega (arith, w.is, r.below), ap t w.is ∙ r.passes)

  -- each has one more below it than the one before
  those_rise : Rising (those t 0 n)
  those_rise i h =
      let a : ℕ = get_or (those t 0 n) i 0 in
      let b : ℕ = get_or (those t 0 n) (suc i) 0 in
      by_cases (dec_lt a b)
      (λ c. c)
      (λ c. absurd (omega (arith, (at_place i (omega arith)).before, (at_place (suc i) h).before, count_up t b a (omega arith))))

-- ---- roles

pilot_role : (a b c e : Bool) → eqb (first_mark a b c) continuous_mark ≡ true → first_role a b c e ≡ Continuous
pilot_role true b c e h = absurd (conflict false h refl)
pilot_role false true c e h = absurd (conflict false h refl)
pilot_role false false true e h = refl
pilot_role false false false e h = absurd (conflict false h refl)

abbrev is_third : Role → Bool
is_third Excluded = false
is_third Plc = false
is_third Continuous = true
is_third Scattered = false
is_third Data = false

role_pilot : (a b c e : Bool) → first_role a b c e ≡ Continuous → eqb (first_mark a b c) continuous_mark ≡ true
role_pilot true b c e h = absurd (conflict false (ap is_third h) refl)
role_pilot false true c e h = absurd (conflict false (ap is_third h) refl)
role_pilot false false true e h = refl
role_pilot false false false true h = absurd (conflict false (ap is_third h) refl)
role_pilot false false false false h = absurd (conflict false (ap is_third h) refl)

module _ (d : Device) (p : Plan) (j k : ℕ) where
  to_role : is_continuous d p k ≡ true → role d p j k ≡ Continuous
  unfolding is_continuous mark role
  to_role = pilot_role (excluded p k) (in_plc d p k) (continuous d p k) (scattered_at d p j k)

  from_role : role d p j k ≡ Continuous → is_continuous d p k ≡ true
  unfolding is_continuous mark role
  from_role = role_pilot (excluded p k) (in_plc d p k) (continuous d p k) (scattered_at d p j k)

-- ---- the claims

pub pilot_claims : (d : Device) → Fits d → Rising d.distances → (s : List ℕ) → PilotClaims d s
unfolding continuous_pilots
pilot_claims d fits rise s = record {
  listed = λ k j h e. in_list (is_continuous d (plan_of s)) d.subcarriers k h (from_role d (plan_of s) j k e);
  has_role = λ k j h. let r = from_list (is_continuous d (plan_of s)) d.subcarriers k h in (r.0, to_role d (plan_of s) j k r.1);
  rising = those_rise (is_continuous d (plan_of s)) d.subcarriers;
  number = λ n e. number d fits s (no_ground d s n (sym e)) rise;
  enough = λ n e. few d fits s (no_ground d s n (sym e));
}
