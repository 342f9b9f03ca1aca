-- From a fresh start the second emitter does what the first does, under every plan that the 50 kHz device accepts. Assumes nothing.
use Prim.Native.Nat.{ℕ, ◌≤◌, ◌<◌}
use mathlib.Core.Path.{◌≡◌, refl, sym, ap, subst₂, ◌∙◌}
use mathlib.Core.Bool.{true, false≢true}
use mathlib.Core.List.{List}
use native.Mathlib.Omega.{arith}
use lib.ListN.{length, replicate, length-replicate}
use borrow.Author.Tests.{lt-leb, le-ltb, leb-false, ltb-false}
use Rattle.counting.specs.Search.{when}
use Rattle.rules.specs.declared.Device.{Device}
use Rattle.rules.specs.Refusals.{Finding}
use Rattle.std.specs.Prelude.{Ok, Err, is_ok}
use Rattle.rules.specs.Device.{khz50, phases}
use Rattle.rules.specs.Plan.{plan_of}
use Rattle.rules.specs.Grounds.{◌else◌, ground?, grounds1to15, verdict}
use Rattle.rules.specs.Frame.{Frame, frame_of}
use Rattle.rules.specs.Store.{emitter_places}
use Rattle.rules.specs.Steps.{Emitter, Starting, starts, refused, short_store, ground16}
use Rattle.rules.proofs.Findings.{both_fine, when_fine, by_finding}
use Rattle.frame.proofs.Cells.{Sound}
use Rattle.facts.proofs.Framed.{sound}
use Rattle.facts.proofs.Sizes.{khz50_roomy}
use Rattle.verdicts.proofs.Verdicts.{no_ground}
use Rattle.figure.specs.Steps.{literal_places, ground27, figure_start_grounds, fresh_literal, frame_start, frame_step, figure_send_step, figure_start_step}
use Rattle.figure.proofs.Sizes.{lengths_add_up}
use Rattle.runs.specs.Run.{Fresh}
use Rattle.runs.proofs.Steps.{frame_entries, frame_entries_lem, FreshIn, fresh_emitter, fresh_in}
use Rattle.figureruns.specs.Same.{with_emitter, figure_entries, SameEmitters, SameAsFigure}
use Rattle.figureruns.proofs.Emitters.{figure_frame, SecondIn, emitters_alike, filler_thrown}

-- ---- a fresh start of the second emitter

module _ (F : Frame) (j : ℕ) (lent : List ℕ) where
  left : Finding → Starting
  left f = elim f [ Ok _ ↦ starts (Ok (record { phase = j })) (fresh_literal F j lent) | Err r ↦ starts (Err r) lent ]

  left_is : frame_start F j lent ≡ left (figure_start_grounds F j lent)
  unfolding frame_start left
  left_is = refl

  started : j < F.phases → literal_places F ≤ length lent → is_ok (frame_start F j lent).answer ≡ true
  unfolding figure_start_grounds ground16 ground27 short_store left
  started hj fits =
      ap (λ (x : Starting). is_ok x.answer) left_is
      ∙ (λ i. is_ok (left (ground? 16 (when (lt-leb F.phases j hj i) 0) else ground? 27 (when (le-ltb (length lent) (literal_places F) fits i) 0))).answer)

-- the emitter that an answer and a store make, u where the answer refuses
emitter_in : Emitter → Starting → Emitter
emitter_in u x = elim x.answer [ Ok e ↦ record { state = e; store = x.store } | Err _ ↦ u ]

-- one that was not refused
second_in : (F : Frame) (j : ℕ) (g : Emitter) → Fresh (figure_frame F) j g → SecondIn F j g
unfolding figure_start_grounds ground16 ground27 short_store left emitter_in
second_in F j g fresh =
    let lent : List ℕ = fresh.lent in
    let is : left F j lent (figure_start_grounds F j lent) ≡ starts (Ok g.state) g.store = sym (left_is F j lent) ∙ fresh.start in
    by_finding (figure_start_grounds F j lent)
    (λ h. record {
      lent = lent;
      phase_in = leb-false _ _ (when_fine 16 0 _ (both_fine _ (ground27 (literal_places F) lent) h).0);
      fits = ltb-false _ _ (when_fine 27 0 _ (both_fine (ground16 F j) _ h).1);
      is_fresh = sym (ap (emitter_in g) (sym (ap (left F j lent) h) ∙ is));
    })
    (λ n place h. absurd (false≢true (ap (λ (x : Starting). is_ok x.answer) (sym (ap (left F j lent) h) ∙ is))))

-- ---- the claim

-- a first emitter beside it: there is one at every phase
beside : (F : Frame) (j : ℕ) → j < F.phases → FreshIn F j (fresh_emitter F j (replicate (emitter_places F) 0))
beside F j hj = record { lent = replicate (emitter_places F) 0; phase_in = hj; fits = rw length-replicate (omega arith); is_fresh = refl }

frame_same : (F : Frame) → Sound F → SameEmitters F (frame_entries F) (figure_frame F)
unfolding literal_places
frame_same F ok = record {
  emitted = λ j e g fresh second. emitters_alike F ok j e g (fresh_in F j e fresh) (second_in F j g second);
  thrown = λ j g second. let w = second_in F j g second in filler_thrown F ok j _ g (beside F j w.phase_in) w;
  lengths = lengths_add_up _ F.depth;
  started = started F;
}

-- the second emitter's entries of a plan that no ground refuses are those of its frame
figure_entries_lem : (d : Device) (s : List ℕ) → grounds1to15 d s ≡ Ok tt → figure_entries d s ≡ figure_frame (frame_of d (plan_of s))
unfolding figure_start_step figure_send_step
figure_entries_lem d s fine = λ i.
    with_emitter
    (λ j lent. elim (fine i) [ Ok _ ↦ frame_start (frame_of d (plan_of s)) j lent | Err r ↦ starts (Err r) lent ])
    (λ e a. elim (fine i) [ Ok _ ↦ frame_step (frame_of d (plan_of s)) e a | Err r ↦ refused e a r ])
    (frame_entries_lem d s fine i)

-- any device whose depths are no more than the phases: every plan that no ground refuses
pub same_as_figure : (d : Device) (s : List ℕ) → d.depth_max ≤ phases → grounds1to15 d s ≡ Ok tt → SameAsFigure d s
same_as_figure d s h fine =
    subst₂ (SameEmitters (frame_of d (plan_of s))) (sym (frame_entries_lem d s fine)) (sym (figure_entries_lem d s fine)) (frame_same (frame_of d (plan_of s)) (sound d s h fine))

-- every plan that the 50 kHz device accepts
pub accepted_same : (s : List ℕ) (n : ℕ) → verdict khz50 s ≡ Ok n → SameAsFigure khz50 s
accepted_same s n e = same_as_figure khz50 s khz50_roomy.depth (no_ground khz50 s n (sym e))
