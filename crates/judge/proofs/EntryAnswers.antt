-- The answers of `role` and `scattered_count` from the verdict and ground 16. Assumes nothing.
use mathlib.Core.Path.{◌≡◌, sym, ap, ◌∙◌}
use mathlib.Core.Bool.{Bool, true, false, ◌||◌}
use mathlib.Core.List.{List}
use Prim.Native.Nat.{ℕ, ◌≤◌, ◌<◌}
use lib.Dec.{leb}
use borrow.Author.Tests.{le-leb, lt-leb}
use Rattle.counting.proofs.Bools.{or_true}
use Rattle.rules.specs.declared.Device.{Device}
use Rattle.rules.specs.declared.Refusal.{Refusal}
use Rattle.rules.specs.Refusals.{Finding, RoleAnswer, CountAnswer, refused_by}
use Rattle.std.specs.Prelude.{Ok, Err}
use Rattle.rules.specs.Device.{phases}
use Rattle.rules.specs.Plan.{plan_of}
use Rattle.rules.specs.Roles.{role, scattered_count}
use Rattle.rules.specs.Grounds.{verdict}
use Rattle.rules.specs.Answers.{role_in, role_answer, scattered_in, scattered_answer}
use Rattle.verdicts.proofs.Verdicts.{no_ground, first_ground}

-- ground 16 of the role, and the role
module _ (d : Device) (s : List ℕ) (k j : ℕ) where
  after16 : Bool → RoleAnswer
  after16 t = elim t [ true ↦ refused_by 16 0 | false ↦ Ok (role d (plan_of s) j k) ]

  pub role_out_subcarrier : d.subcarriers ≤ k → refused_by 16 0 ≡ role_in d s k j
  unfolding role_in after16
  role_out_subcarrier l = sym (ap (λ (b : Bool). after16 (b || leb phases j)) (le-leb d.subcarriers k l))

  pub role_out_phase : phases ≤ j → refused_by 16 0 ≡ role_in d s k j
  unfolding role_in after16
  role_out_phase l = sym (ap (λ (b : Bool). after16 (leb d.subcarriers k || b)) (le-leb phases j l) ∙ ap after16 (or_true (leb d.subcarriers k)))

  pub role_is : k < d.subcarriers → j < phases → Ok (role d (plan_of s) j k) ≡ role_in d s k j
  unfolding role_in after16
  role_is l w = sym (λ i. after16 (lt-leb d.subcarriers k l i || lt-leb phases j w i))

-- the answers of the entries as functions of the finding
role_after : Device → List ℕ → ℕ → ℕ → Finding → RoleAnswer
role_after d s k j f = elim f [ Ok _ ↦ role_in d s k j | Err r ↦ Err r ]

count_after : Device → List ℕ → ℕ → Finding → CountAnswer
count_after d s j f = elim f [ Ok _ ↦ scattered_in d s j | Err r ↦ Err r ]

-- refused as the verdict is, else left to ground 16
module _ (d : Device) (s : List ℕ) (k j : ℕ) where
  pub role_refused : (r : Refusal) → Err r ≡ verdict d s → Err r ≡ role_answer d s k j
  unfolding role_answer role_after
  role_refused r e = sym (ap (role_after d s k j) (first_ground d s r.number r.place e))

  pub role_left : (n : ℕ) → Ok n ≡ verdict d s → role_in d s k j ≡ role_answer d s k j
  unfolding role_answer role_after
  role_left n e = sym (ap (role_after d s k j) (no_ground d s n e))

module _ (d : Device) (s : List ℕ) (j : ℕ) where
  pub count_refused : (r : Refusal) → Err r ≡ verdict d s → Err r ≡ scattered_answer d s j
  unfolding scattered_answer count_after
  count_refused r e = sym (ap (count_after d s j) (first_ground d s r.number r.place e))

  left16 : (n : ℕ) → Ok n ≡ verdict d s → (t : Bool) → leb phases j ≡ t → elim t [ true ↦ refused_by 16 0 | false ↦ Ok (scattered_count d (plan_of s) j) ] ≡ scattered_answer d s j
  unfolding scattered_answer count_after scattered_in
  left16 n e t h = sym (ap (count_after d s j) (no_ground d s n e) ∙ ap (λ (b : Bool). elim b [ true ↦ refused_by 16 0 | false ↦ Ok (scattered_count d (plan_of s) j) ]) h)

  pub count_late : (n : ℕ) → Ok n ≡ verdict d s → phases ≤ j → refused_by 16 0 ≡ scattered_answer d s j
  count_late n e l = left16 n e true (le-leb phases j l)

  pub count_left : (n : ℕ) → Ok n ≡ verdict d s → j < phases → Ok (scattered_count d (plan_of s) j) ≡ scattered_answer d s j
  count_left n e l = left16 n e false (lt-leb phases j l)
