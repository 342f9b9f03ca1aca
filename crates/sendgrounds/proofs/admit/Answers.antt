-- `sendgrounds::admit` meets its contract. Assumes nothing.
use Prim.Native.Nat.{ℕ}
use mathlib.Core.Path.{◌≡◌, refl, sym, ◌∙◌, subst}
use mathlib.Core.Bool.{Bool, true, false}
use mathlib.Core.List.{List}
use Rattle.counting.specs.Search.{pick}
use Rattle.rules.specs.Refusals.{Verdict}
use Rattle.std.specs.Prelude.{Ok}
use Rattle.rules.specs.Plan.{plan_of}
use Rattle.rules.specs.Frame.{Frame, frame_of}
use Rattle.rules.specs.Loads.{ground25}
use Rattle.rules.specs.Steps.{profile_ground}
use Rattle.verdicts.specs.Studied.{StudiedIf}
use Rattle.verdicts.proofs.Verdicts.{first_ground}
use Rattle.steps.specs.Ready.{Ready}
use Rattle.steps.proofs.Accepted.{ready}
use Rattle.sending.specs.Sent.{given_by, at, giving}
use Rattle.rules.proofs.Findings.{passed_on}
use Rattle.sendgrounds.proofs.Stages.{by_plan, by_profile}
use Rattle.sendgrounds.proofs.admit.Goals as goal
use Rattle.sendgrounds.proofs.admit.Goals.{In_ok-n}

-- the plan is accepted, and its marks are made
accepted : (c : In_ok-n) → let a = c.args in Ready a.d a.plan.now c.in_ok-n.n c.study.new.m
accepted c =
    let a = c.args in
    let study = c.study in
    let told = c.in_ok-n.was in
    ready a.d a.plan.now _ _ c.requires.0 c.requires.1 (sym told ∙ study.ensures.0) (subst (λ (v : Verdict). StudiedIf v a.d a.plan.now study.new.m) told study.ensures.1)

-- what was found of the profile is what the step's ground 25 finds
found : (F : Frame) (w : List ℕ) (flushing : Bool) (ds : List ℕ) → pick flushing (Ok tt) (ground25 F.width w) ≡ profile_ground F w (given_by flushing ds)
unfolding profile_ground
found F w true ds = refl
found F w false ds = refl

pub returns-in_err-profile_found : goal.returns-in_err-profile_found
unfolding frame_of
returns-in_err-profile_found c store ds room es er t =
    let a = c.args in
    rw (passed_on _ c.from_residual-in_err-profile_found.ensures)
    (by_profile a.literal a.d a.plan.now (at a.state store) (giving (given_by a.flushing ds) a.profile.now room) (accepted (goal.at.returns-in_err-profile_found c).In_ok-n).fine _ _ (sym c.in_err-profile_found.was ∙ c.profile_found.ensures ∙ found (frame_of a.d (plan_of a.plan.now)) a.profile.now a.flushing ds), tt)

pub admit_step-requires : goal.admit_step-requires
admit_step-requires c =
    (accepted (goal.at.admit_step-requires c).In_ok-n, sym c.profile_found.ensures ∙ c.in_ok-profile_found.was, c.requires.2, c.requires.4, c.requires.5)

pub returns-in_err-n : goal.returns-in_err-n
returns-in_err-n c store ds room es er t =
    let a = c.args in
    rw (passed_on _ c.from_residual.ensures)
    (by_plan a.literal a.d a.plan.now (at a.state store) (giving (given_by a.flushing ds) a.profile.now room) _ _ (first_ground a.d a.plan.now _ _ (sym c.in_err-n.was ∙ c.study.ensures.0)), tt)
