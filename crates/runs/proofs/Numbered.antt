-- How either end of the line goes with the number of its accepted steps. Assumes nothing.
use Prim.Native.Nat.{ℕ, suc, ◌+◌, ◌%◌, ◌≤◌, ◌<◌}
use mathlib.Core.Path.{◌≡◌, refl, ap, ◌∙◌}
use mathlib.Core.Bool.{Bool, true, false}
use mathlib.Core.List.{List, [], ◌∷◌}
use native.Mathlib.Nat.{mod-eq_of_lt, mod-add-mod, add-zero}
use native.Mathlib.Omega.{arith}
use lib.ListN.{length}
use Rattle.rules.specs.Refusals.{Finding, refused_by}
use Rattle.std.specs.Prelude.{Ok}
use Rattle.rules.specs.Frame.{Frame, cells, next_phase}
use Rattle.rules.specs.Places.{moved}
use Rattle.places.proofs.Kept.{length_moved}
use Rattle.frame.specs.Counted.{phase_of}
use Rattle.runs.specs.Run.{accepted_steps, after_steps}
use Rattle.rules.proofs.Findings.{by_finding}

-- ---- phase and store

-- the phase, and a store of at least so many places, n accepted steps after the starting phase j
pub record Numbered (F : Frame) (places j n phase : ℕ) (store : List ℕ) : Type 0 where
  pub phase_is : phase ≡ phase_of F j n
  pub fits : places ≤ length store

pub numbered_fresh : (F : Frame) (places j : ℕ) (store : List ℕ) → j < F.phases → places ≤ length store → Numbered F places j 0 j store
numbered_fresh F places j store hj fits = record { phase_is = rw (add-zero, mod-eq_of_lt hj) refl; fits = fits }

pub numbered_next : (F : Frame) (places j n phase : ℕ) (d : ℕ → ℕ) (store x : List ℕ) → Numbered F places j n phase store
    → Numbered F places j (suc n) (next_phase F phase) (moved d (cells F) store x)
numbered_next F places j n phase d store x t = record {
  phase_is = rw t.phase_is (mod-add-mod (j + n) F.phases 1 ∙ ap (λ (x : ℕ). x % F.phases) (let e : j + n + 1 ≡ j + suc n = omega arith in e));
  fits = rw (length_moved d) t.fits;
}

-- ---- the accepted steps

-- The steps of one end: how a step goes, what is found of it, and what holds of the end after n accepted steps. What is found hangs on n alone; a step of which
-- nothing is found is accepted, and any other leaves the end as it was.
pub record NumberedSteps (E A R : Type 0) : Type 1 where
  pub step : E → A → R
  pub ok : R → Bool
  pub left : R → E
  pub found : E → A → Finding
  pub After : ℕ → E → Type 0
  pub found_at : ℕ → A → Finding
  pub fine : (e : E) (a : A) → found e a ≡ Ok tt → ok (step e a) ≡ true
  pub away : (e : E) (a : A) (g place : ℕ) → found e a ≡ refused_by g place → (ok (step e a) ≡ false) × (left (step e a) ≡ e)
  pub on : (n : ℕ) (e : E) (a : A) → found e a ≡ Ok tt → After n e → After (suc n) (left (step e a))
  pub same : (n : ℕ) (e : E) (a : A) → After n e → found e a ≡ found_at n a

module _ {E A R : Type 0} (S : NumberedSteps E A R) where
  -- the accepted steps of a run, and the end after it
  abbrev pub accepted_of : E → List A → List (A × R)
  accepted_of e steps = accepted_steps S.step S.ok S.left e steps

  abbrev pub end_after : E → List A → E
  end_after e steps = after_steps S.step S.left e steps

  after_numbered : (n : ℕ) (e : E) (steps : List A) → S.After n e → S.After (n + length (accepted_of e steps)) (end_after e steps)
  unfolding accepted_steps after_steps
  after_numbered n e [] h = rw (add-zero n) h
  after_numbered n e (a ∷ rest) h =
      by_finding (S.found e a)
      (λ q.
      let w : E = S.left (S.step e a) in
      let t : n + suc (length (accepted_of w rest)) ≡ suc n + length (accepted_of w rest) = omega arith in
      rw (S.fine e a q, t) (after_numbered (suc n) w rest (S.on n e a q h)))
      (λ g place q. rw ((S.away e a g place q).0, (S.away e a g place q).1) (after_numbered n e rest h))

  -- what is found of one more step
  pub found_numbered : (n : ℕ) (e : E) (steps : List A) (a : A) → S.After n e → S.found (end_after e steps) a ≡ S.found_at (n + length (accepted_of e steps)) a
  found_numbered n e steps a h = S.same (n + length (accepted_of e steps)) (end_after e steps) a (after_numbered n e steps h)
