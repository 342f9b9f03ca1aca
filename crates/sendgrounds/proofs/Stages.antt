-- The first ground of a sending step, stage by stage: one law for each stage at which it is found. Assumes nothing.
use mathlib.Core.Path.{◌≡◌, refl, sym, ap, ◌∙◌}
use mathlib.Core.Bool.{Bool}
use mathlib.Core.List.{List}
use Prim.Native.Nat.{ℕ, ◌≤◌, ◌<◌}
use lib.ListN.{length}
use borrow.Author.Tests.{lt-ltb, le-ltb}
use Rattle.counting.specs.Search.{when}
use Rattle.rules.specs.declared.Device.{Device}
use Rattle.rules.specs.Refusals.{Finding, refused_by}
use Rattle.std.specs.Prelude.{Ok}
use Rattle.rules.specs.Plan.{plan_of}
use Rattle.rules.specs.Grounds.{◌else◌, ground?, grounds1to15, answer}
use Rattle.rules.specs.Frame.{Frame, frame_of, cells}
use Rattle.rules.specs.Steps.{Emitter, Send, short_store, ground16, ground17, profile_ground, given_grounds}
use Rattle.verdicts.proofs.Verdicts.{else_assoc}
use Rattle.figure.specs.Steps.{ground27}
use Rattle.figure.specs.Needs.{places17, places27, step_grounds}
use Rattle.sendgrounds.specs.Opening.{send_finding, send_verdict}

module _ (literal : Bool) (d : Device) (s : List ℕ) (e : Emitter) (a : Send) where
  abbrev F : Frame
  F = frame_of d (plan_of s)

  -- ground 25 of a step, 16 and 17, 27, and those of what it is given
  abbrev of_profile : Finding
  of_profile = profile_ground F a.profile a.given

  abbrev of_lent : Finding
  of_lent = ground16 F e.state.phase else ground17 F (places17 literal F) e.store a.room

  abbrev of_lines : Finding
  of_lines = ground27 (places27 literal F) e.store

  abbrev of_given : Finding
  of_given = given_grounds F a.profile e.state.phase a.given

  -- what is found, as a function of what is found first
  found : Finding → Finding → Finding
  found f g =
      f
      else g
      else ground16 F e.state.phase
      else ground17 F (places17 literal F) e.store a.room
      else of_lines
      else of_given

  found_is : found (grounds1to15 d s) of_profile ≡ send_finding literal d s e a
  unfolding found send_finding step_grounds
  found_is = refl

  -- refused as the plan is
  pub by_plan : (n place : ℕ) → grounds1to15 d s ≡ refused_by n place → refused_by n place ≡ send_verdict literal d s e a
  unfolding send_verdict found
  by_plan n place h = ap (λ (f : Finding). answer f (cells F)) (sym (ap (λ (f : Finding). found f of_profile) h) ∙ found_is)

  -- refused by 25
  pub by_profile : grounds1to15 d s ≡ Ok tt → (n place : ℕ) → refused_by n place ≡ of_profile → refused_by n place ≡ send_verdict literal d s e a
  unfolding send_verdict found
  by_profile fine n place h = ap (λ (f : Finding). answer f (cells F)) (sym (λ i. found (fine i) (sym h i)) ∙ found_is)

  module _ (fine : grounds1to15 d s ≡ Ok tt) (listed : of_profile ≡ Ok tt) where
    -- 16 and 17 come before 27, and that before those that speak of the data
    staged : (f : Finding) → f ≡ (of_lent else of_lines else of_given) → answer f (cells F) ≡ send_verdict literal d s e a
    unfolding send_verdict found
    staged f h =
        ap (λ (x : Finding). answer x (cells F))
        (h ∙ else_assoc (ground16 F e.state.phase) (ground17 F (places17 literal F) e.store a.room) (of_lines else of_given)
        ∙ sym (λ i. found (fine i) (listed i)) ∙ found_is)

    -- refused by 16 or 17
    pub by_lent : (n place : ℕ) → refused_by n place ≡ of_lent → refused_by n place ≡ send_verdict literal d s e a
    by_lent n place h = staged (refused_by n place) (ap (λ (f : Finding). f else of_lines else of_given) h)

    module _ (lent-fine : (Ok tt) ≡ of_lent) where
      after_lent : (f : Finding) → f ≡ (of_lines else of_given) → answer f (cells F) ≡ send_verdict literal d s e a
      after_lent f g = staged f (g ∙ ap (λ (x : Finding). x else of_lines else of_given) lent-fine)

      -- refused by 27
      pub by_lines : length e.store < places27 literal F → refused_by 27 0 ≡ send_verdict literal d s e a
      unfolding ground27 short_store
      by_lines h = after_lent (refused_by 27 0) (sym (λ i. ground? 27 (when (lt-ltb (length e.store) (places27 literal F) h i) 0) else of_given))

      -- left to 18 and 19
      pub by_given : places27 literal F ≤ length e.store → (f : Finding) → f ≡ of_given → answer f (cells F) ≡ send_verdict literal d s e a
      unfolding ground27 short_store
      by_given h f g = after_lent f (g ∙ sym (λ i. ground? 27 (when (le-ltb (length e.store) (places27 literal F) h i) 0) else of_given))
