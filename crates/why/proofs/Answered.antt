-- What a role that is answered says of the plan, the subcarrier and the phase. Assumes nothing.
use Prim.Native.Nat.{ℕ, ◌<◌}
use mathlib.Core.Path.{◌≡◌, refl}
use mathlib.Core.Bool.{Bool, true, false, ◌||◌}
use mathlib.Core.List.{List}
use lib.Dec.{leb}
use borrow.Author.Tests.{leb-false}
use Rattle.counting.proofs.Bools.{neither}
use Rattle.rules.specs.declared.Device.{Device}
use Rattle.rules.specs.Refusals.{Finding, RoleAnswer, refused_by}
use Rattle.rules.proofs.Findings.{not_fine}
use Rattle.std.specs.Prelude.{Ok, Err}
use Rattle.rules.specs.declared.Role.{Role}
use Rattle.rules.specs.declared.Role.TheVariants.{Data}
use Rattle.rules.specs.Device.{phases}
use Rattle.rules.specs.Plan.{plan_of}
use Rattle.rules.specs.Roles.{role, ranked}
use Rattle.rules.specs.Grounds.{grounds1to15}
use Rattle.rules.specs.Answers.{role_in, role_answer}
use Rattle.rules.specs.Frame.{frame_of}
use Rattle.facts.proofs.Framed.{by_rank}

module _ (d : Device) (s : List ℕ) (k j : ℕ) (r : Role) where
  -- the plan is accepted, the subcarrier is in its range, and the role is the rules'
  pub record Answered : Type 0 where
    pub fine : grounds1to15 d s ≡ Ok tt
    pub below : k < d.subcarriers
    pub is : r ≡ role d (plan_of s) j k

  in_range : (b : Bool) → (leb d.subcarriers k || leb phases j) ≡ b → ◌≡◌ {A = RoleAnswer} (elim b [ true ↦ refused_by 16 0 | false ↦ Ok (role d (plan_of s) j k) ]) (Ok r)
      → (k < d.subcarriers) × (r ≡ role d (plan_of s) j k)
  in_range true f e = absurd (not_fine e)
  in_range false f e = (leb-false d.subcarriers k (neither (leb d.subcarriers k) (leb phases j) f).0, cc)

  pub role_answered : role_answer d s k j ≡ Ok r → Answered
  unfolding role_answer role_in
  role_answered e = go (grounds1to15 d s) refl e
    where
      go : (f : Finding) → grounds1to15 d s ≡ f → ◌≡◌ {A = RoleAnswer} (elim f [ Ok _ ↦ role_in d s k j | Err e ↦ Err e ]) (Ok r) → Answered
      go (Ok _) f e = let t = in_range (leb d.subcarriers k || leb phases j) refl e in record { fine = f; below = t.0; is = t.1 }
      go (Err a) f e = absurd (not_fine e)

-- a subcarrier with the role data has a rank
pub data_ranked : (d : Device) (s : List ℕ) (k j : ℕ) → k < d.subcarriers → role d (plan_of s) j k ≡ Data → ranked d (plan_of s) k ≡ true
unfolding frame_of
data_ranked d s k j l e = (by_rank d (plan_of s)).data_ranked j k l e
