-- Two runs that stay alike from step to step have the same results, and the same steps are accepted. Assumes nothing.
use mathlib.Core.Path.{◌≡◌, refl, sym, ap, ap₂, ◌∙◌}
use mathlib.Core.Bool.{Bool}
use mathlib.Core.List.{List, [], ◌∷◌, map}
use Rattle.counting.proofs.Bools.{by_test}
use Rattle.runs.specs.Run.{accepted_steps, after_steps}
use Rattle.runs.specs.Results.{results}

-- steps of two kinds, whose results are the same where what they are given is alike, and which then leave what is alike
module _ {E L A R Q T : Type 0} (step : E → A → R) (left : R → E) (result : R → T) (other_step : L → A → Q) (other-left : Q → L) (other_result : Q → T)
    (Alike : E → L → Type 0)
    (on : (e : E) (l : L) (a : A) → Alike e l → (result (step e a) ≡ other_result (other_step l a)) × Alike (left (step e a)) (other-left (other_step l a))) where
  pub same_results : (e : E) (l : L) (steps : List A) → Alike e l → results step left result e steps ≡ results other_step other-left other_result l steps
  unfolding results
  same_results e l [] h = refl
  same_results e l (a ∷ rest) h =
      let r = on e l a h in
      ap₂ (λ (t : T) (ts : List T). t ∷ ts) r.0 (same_results (left (step e a)) (other-left (other_step l a)) rest r.1)

  -- whatever is taken of the accepted steps
  pub same_accepted : {B : Type 0} (ok : T → Bool) (of : A → T → B) (e : E) (l : L) (steps : List A) → Alike e l
      → map (λ x. of x.0 (result x.1)) (accepted_steps step (λ r. ok (result r)) left e steps)
      ≡ map (λ x. of x.0 (other_result x.1)) (accepted_steps other_step (λ r. ok (other_result r)) other-left l steps)
  unfolding accepted_steps
  same_accepted ok of e l [] h = refl
  same_accepted {B} ok of e l (a ∷ rest) h =
      let r = on e l a h in
      let more = same_accepted ok of (left (step e a)) (other-left (other_step l a)) rest r.1 in
      by_test (ok (result (step e a)))
      (λ q. rw (q, sym (ap ok r.0) ∙ q) (ap₂ (λ (b : B) (bs : List B). b ∷ bs) (ap (of a) r.0) more))
      (λ q. rw (q, sym (ap ok r.0) ∙ q) more)

  -- and they are alike after the steps
  pub alike_after : (e : E) (l : L) (steps : List A) → Alike e l → Alike (after_steps step left e steps) (after_steps other_step other-left l steps)
  unfolding after_steps
  alike_after e l [] h = h
  alike_after e l (a ∷ rest) h = alike_after (left (step e a)) (other-left (other_step l a)) rest (on e l a h).1
