-- The verdict from the grounds of its stages, and what a verdict says of them. Assumes nothing.
use mathlib.Core.Path.{◌≡◌, refl, sym, ap, ◌∙◌}
use mathlib.Core.List.{List, []}
use Prim.Native.Nat.{ℕ}
use Rattle.rules.specs.declared.Device.{Device}
use Rattle.rules.specs.Refusals.{Finding, Verdict, refused_by}
use Rattle.std.specs.Prelude.{Ok, Err}
use Rattle.rules.specs.Plan.{Plan, plan_of}
use Rattle.rules.specs.Roles.{ranked_count}
use Rattle.rules.specs.Grounds.{◌else◌, ground?, outside, around_plc, pilot_clash, grounds1to5, grounds6to15, grounds1to15, answer, verdict}
use Rattle.rules.proofs.Answered.{accepted_is, refused_is}
use Rattle.marks.specs.Marked.{grounds6to8}
use Rattle.verdicts.specs.Studied.{Studied, StudiedIf}
use Rattle.ranked.specs.Ground15.{ground15}
use Rattle.grounds.specs.Order.{grounds13to15, grounds11to15, grounds9to15}

pub else_assoc : (a b c : Finding) → ((a else b) else c) ≡ (a else (b else c))
else_assoc (Ok tt) b c = refl
else_assoc (Err r) b c = refl

-- grounds 6 to 15 in two stages
staged : (d : Device) (p : Plan) → grounds6to15 d p ≡ (grounds6to8 d p else grounds9to15 d p)
unfolding grounds6to15 grounds6to8 grounds9to15 grounds11to15 grounds13to15 ground15
staged d p =
    sym (else_assoc (ground? 6 (outside d p)) (ground? 7 (around_plc d p) else ground? 8 (pilot_clash d p [] p.pilots)) (grounds9to15 d p)
    ∙ ap (λ (f : Finding). ground? 6 (outside d p) else f) (else_assoc (ground? 7 (around_plc d p)) (ground? 8 (pilot_clash d p [] p.pilots)) (grounds9to15 d p)))

module _ (d : Device) (s : List ℕ) where
  -- refused by a ground of 1 to 5
  pub verdict_chain : (g k : ℕ) → refused_by g k ≡ grounds1to5 d s → refused_by g k ≡ verdict d s
  unfolding verdict grounds1to15
  verdict_chain g k e = ap (λ (f : Finding). answer (f else grounds6to15 d (plan_of s)) (ranked_count d (plan_of s))) e

  later : (f : Finding) → Ok tt ≡ grounds1to5 d s → f ≡ grounds6to15 d (plan_of s) → answer f (ranked_count d (plan_of s)) ≡ verdict d s
  unfolding verdict grounds1to15
  later f e g = ap (λ (x : Finding). answer x (ranked_count d (plan_of s))) g ∙ ap (λ (x : Finding). answer (x else grounds6to15 d (plan_of s)) (ranked_count d (plan_of s))) e

  -- refused by a ground of 6 to 8
  pub verdict_early : (g k : ℕ) → Ok tt ≡ grounds1to5 d s → refused_by g k ≡ grounds6to8 d (plan_of s) → refused_by g k ≡ verdict d s
  verdict_early g k e h = later (refused_by g k) e (ap (λ (f : Finding). f else grounds9to15 d (plan_of s)) h ∙ sym (staged d (plan_of s)))

  -- left to the grounds from 9 on
  pub verdict_late : (Ok tt) ≡ grounds1to5 d s → Ok tt ≡ grounds6to8 d (plan_of s) → answer (grounds9to15 d (plan_of s)) (ranked_count d (plan_of s)) ≡ verdict d s
  verdict_late e h = later (grounds9to15 d (plan_of s)) e (ap (λ (f : Finding). f else grounds9to15 d (plan_of s)) h ∙ sym (staged d (plan_of s)))

-- what a verdict says of the grounds
pub no_ground : (d : Device) (s : List ℕ) (n : ℕ) → Ok n ≡ verdict d s → grounds1to15 d s ≡ Ok tt
unfolding verdict
no_ground d s n e = (accepted_is (grounds1to15 d s) n (ranked_count d (plan_of s)) e).0

pub first_ground : (d : Device) (s : List ℕ) (g k : ℕ) → refused_by g k ≡ verdict d s → grounds1to15 d s ≡ refused_by g k
unfolding verdict
first_ground d s g k e = refused_is (grounds1to15 d s) g k (ranked_count d (plan_of s)) e

-- what is known whatever the verdict is
pub studied_if : (r : Verdict) (d : Device) (s m : List ℕ) → Studied d s m → StudiedIf r d s m
studied_if (Ok n) d s m w = w
studied_if (Err r) d s m w = tt
