-- The answer of `why` from that of `role`: the role that it names, and of an accepted plan what its role is. Assumes nothing.
use Prim.Native.Nat.{ℕ, ◌+◌, ◌-◌, ◌<◌}
use mathlib.Core.Path.{◌≡◌, refl, ap, ◌∙◌}
use mathlib.Core.Bool.{Bool, true, false, ◌||◌}
use mathlib.Core.List.{List}
use lib.Dec.{ltb}
use borrow.Author.Tests.{lt-leb}
use Rattle.counting.proofs.Bools.{by_test}
use Rattle.rules.specs.declared.Device.{Device}
use Rattle.rules.specs.declared.Reason.TheVariants.{PilotBelow, PilotAbove, PilotBy}
use Rattle.rules.specs.declared.Refusal.{Refusal}
use Rattle.rules.specs.Refusals.{Finding, RoleAnswer, WhyAnswer, refused_by}
use Rattle.std.specs.Prelude.{Ok, Err}
use Rattle.rules.specs.declared.Role.{Role}
use Rattle.rules.specs.declared.Role.TheVariants.{Excluded, Plc, Continuous, Scattered, Data}
use Rattle.rules.specs.Device.{phases}
use Rattle.rules.specs.Plan.{plan_of}
use Rattle.rules.specs.Roles.{one_of, predefined, role}
use Rattle.rules.specs.Grounds.{grounds1to15}
use Rattle.rules.specs.Answers.{role_in, role_answer}
use Rattle.reasons.specs.Reasons.{makes_pilot, first_record, distance_reason, pilot_reason, with_reason, why_answer, role_of, named}

-- why a subcarrier is a continuous pilot, by the tests
module _ (d : Device) (s : List ℕ) (k : ℕ) where
  pub below_is : ltb k (plan_of s).plc ≡ true → distance_reason d s k ≡ PilotBelow ((plan_of s).plc - k)
  unfolding distance_reason
  below_is e = rw e refl

  pub above_is : ltb k (plan_of s).plc ≡ false → distance_reason d s k ≡ PilotAbove (k - ((plan_of s).plc + d.plc_width - 1))
  unfolding distance_reason
  above_is e = rw e refl

  pub predefined_is : one_of k (predefined d (plan_of s).plc) ≡ true → pilot_reason d s k ≡ distance_reason d s k
  unfolding pilot_reason
  predefined_is e = rw e refl

  pub further_is : one_of k (predefined d (plan_of s).plc) ≡ false → pilot_reason d s k ≡ PilotBy (first_record (makes_pilot k) s)
  unfolding pilot_reason
  further_is e = rw e refl

module _ (d : Device) (s : List ℕ) (k j : ℕ) where
  -- the answer as a function of that of `role`
  unfoldable answered : RoleAnswer → WhyAnswer
  answered a = elim a [ Ok r ↦ Ok (with_reason d s k j r) | Err r ↦ Err r ]

  pub why_is : (r : Role) → role_answer d s k j ≡ Ok r → why_answer d s k j ≡ Ok (with_reason d s k j r)
  unfolding why_answer answered
  why_is r e = ap answered e

  pub why_refused : (r : Refusal) → role_answer d s k j ≡ Err r → why_answer d s k j ≡ Err r
  unfolding why_answer answered
  why_refused r e = ap answered e

  -- ---- the role that is named

  distance_named : role_of (distance_reason d s k) ≡ Continuous
  distance_named = by_test (ltb k (plan_of s).plc) (λ e. ap role_of (below_is d s k e)) (λ e. ap role_of (above_is d s k e))

  pilot_named : role_of (pilot_reason d s k) ≡ Continuous
  pilot_named =
      by_test (one_of k (predefined d (plan_of s).plc))
      (λ e. ap role_of (predefined_is d s k e) ∙ distance_named)
      (λ e. ap role_of (further_is d s k e))

  reason_named : (r : Role) → role_of (with_reason d s k j r) ≡ r
  unfolding with_reason
  reason_named Excluded = refl
  reason_named Plc = refl
  reason_named Continuous = pilot_named
  reason_named Scattered = refl
  reason_named Data = refl

  answer_named : (a : RoleAnswer) → named (answered a) ≡ a
  unfolding answered
  answer_named (Ok r) = ap Ok (reason_named r)
  answer_named (Err r) = refl

  pub same_role : named (why_answer d s k j) ≡ role_answer d s k j
  unfolding why_answer answered
  same_role = answer_named (role_answer d s k j)

  -- ---- of an accepted plan, a subcarrier and a phase in their ranges

  after_finding : Finding → RoleAnswer
  after_finding f = elim f [ Ok _ ↦ role_in d s k j | Err r ↦ Err r ]

  after16 : Bool → RoleAnswer
  after16 b = elim b [ true ↦ refused_by 16 0 | false ↦ Ok (role d (plan_of s) j k) ]

  role_answered : grounds1to15 d s ≡ Ok tt → k < d.subcarriers → j < phases → role_answer d s k j ≡ Ok (role d (plan_of s) j k)
  unfolding role_answer role_in after_finding after16
  role_answered fine l h = ap after_finding fine ∙ (λ i. after16 (lt-leb d.subcarriers k l i || lt-leb phases j h i))

  pub why_answered : grounds1to15 d s ≡ Ok tt → k < d.subcarriers → j < phases → why_answer d s k j ≡ Ok (with_reason d s k j (role d (plan_of s) j k))
  why_answered fine l h = why_is (role d (plan_of s) j k) (role_answered fine l h)
