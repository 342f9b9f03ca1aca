-- The claims of the pilot lamp hold, of any device that fits. Assumes nothing.
use Prim.Native.Nat.{ℕ, suc, ◌≤◌, ◌<◌}
use mathlib.Core.Path.{◌≡◌, refl, sym, ap, ◌∙◌}
use mathlib.Core.Logic.{by_cases}
use mathlib.Core.Bool.{false}
use mathlib.Core.List.{List, [], ◌∷◌}
use native.Mathlib.Decide.{dec_lt, ℕ_discrete}
use native.Mathlib.Omega.{arith}
use lib.ListN.{length, get_or, get_or-eq_default}
use borrow.Author.Tests.{ne_eqb, lt-ltb, le-ltb}
use Rattle.counting.specs.Search.{bit, tabulate}
use Rattle.counting.proofs.Lists.{length_tabulate, get_d_tabulate}
use Rattle.rules.specs.declared.Device.{Device}
use Rattle.rules.specs.declared.Refusal.{Refusal}
use Rattle.rules.specs.Refusals.{Finding, CountAnswer, refusal}
use Rattle.std.specs.Prelude.{Ok, Err}
use Rattle.rules.specs.Fits.{Fits}
use Rattle.rules.specs.Plan.{plan_of}
use Rattle.rules.specs.Grounds.{grounds1to15}
use Rattle.rules.proofs.Findings.{by_finding, not_fine}
use Rattle.verdicts.proofs.Verdicts.{no_ground}
use Rattle.pilots.specs.Pilots.{pilots_most, continuous_pilots}
use Rattle.pilots.proofs.Numbers.{few}
use Rattle.lamprecord.specs.Record.{lamp_cap, lit, lights, lamp_record}
use Rattle.lamprecord.proofs.Afresh.{length_record, fresh_record_lem, next_record_lem, lights_afresh, good_record}
use Rattle.lampgrounds.specs.Steps.{Hearing, leaves_record, shows, no_lights, lamp_finding, lamp_hears, lamp_step}
use Rattle.lampgrounds.proofs.Opened.{finding_fine, finding_17}
use Rattle.lampgrounds.proofs.Heard.{step_refused, step_fine}
use Rattle.lamp.specs.Run.{LampState, after_one, after_all, lamp_run}
use Rattle.lamp.specs.Claims.{StepClaims, RunClaims, LampClaims}

-- ---- any record and any symbol

module _ (d : Device) (s r : List ℕ) where
  -- the answer, from what was found
  answer_of : Finding → CountAnswer
  answer_of f = elim f [ Ok _ ↦ Ok (length (continuous_pilots d (plan_of s))) | Err r ↦ Err r ]

  answer_is : (y : List ℕ) → (lamp_step d s r y).answer.answer ≡ answer_of (lamp_finding d s r (length y))
  unfolding answer_of lamp_hears
  answer_is y =
      by_finding (lamp_finding d s r (length y))
      (λ e. ap (λ (x : Hearing). x.answer.answer) (sym (step_fine d s r y e)) ∙ sym (ap answer_of e))
      (λ n place e. ap (λ (x : Hearing). x.answer.answer) (sym (step_refused d s r y (refusal n place) e)) ∙ sym (ap answer_of e))

  kept : (y : List ℕ) (a : Refusal) → (lamp_step d s r y).answer.answer ≡ Err a → (lamp_step d s r y).counts ≡ r
  kept y a h =
      by_finding (lamp_finding d s r (length y))
      (λ e. absurd (not_refused (sym (ap answer_of e) ∙ sym (answer_is y) ∙ h)))
      (λ g at e. ap (λ (x : Hearing). x.counts) (sym (step_refused d s r y (refusal g at) e)))
    where
      not_refused : answer_of (Ok tt) ≡ Err a → ⊥
      not_refused z = unfold answer_of in (not_fine (sym z))

step_claims : (d : Device) (s : List ℕ) → StepClaims (lamp_step d s)
step_claims d s = record {
  any_cells = λ r y y' e. answer_is d s r y ∙ ap (λ (n : ℕ). answer_of d s r (lamp_finding d s r n)) e ∙ sym (answer_is d s r y');
  stays = kept d s;
}

-- ---- runs of an accepted plan

module _ (d : Device) (fits : Fits d) (s : List ℕ) (fine : grounds1to15 d s ≡ Ok tt) where
  abbrev ks : List ℕ
  ks = continuous_pilots d (plan_of s)

  abbrev after : List (List ℕ) → List ℕ
  after hs = lamp_record lamp_cap ks hs

  -- a symbol of full length, and one of another
  step_full : (hs : List (List ℕ)) (y : List ℕ) → length y ≡ d.subcarriers → lamp_step d s (after hs) y ≡ shows (length ks) (after (y ∷ hs))
  unfolding lamp_hears
  step_full hs y h =
      sym (step_fine d s (after hs) y (finding_fine d s (after hs) (length y) fine (good_record lamp_cap ks hs) h))
      ∙ ap (shows (length ks)) (next_record_lem lamp_cap ks y hs)

  step_other : (hs : List (List ℕ)) (y : List ℕ) → (length y ≡ d.subcarriers → ⊥) → lamp_step d s (after hs) y ≡ leaves_record (no_lights (refusal 17 0)) (after hs)
  step_other hs y h = sym (step_refused d s (after hs) y (refusal 17 0) (finding_17 d s (after hs) (length y) fine (good_record lamp_cap ks hs) h))

  -- the record is that of all that was heard
  abbrev Counted : LampState → Type 0
  Counted l = l.counts ≡ after l.heard

  counted_next : (l : LampState) (y : List ℕ) → Counted l → Counted (after_one (lamp_step d s) l y)
  unfolding after_one
  counted_next l y k =
      rw k
      (by_cases (ℕ_discrete (length y) d.subcarriers)
      (λ e. rw (step_full l.heard y e) refl)
      (λ e. rw (step_other l.heard y e) refl))

  counted_all : (l : LampState) (ys : List (List ℕ)) → Counted l → Counted (after_all (lamp_step d s) l ys)
  unfolding after_all
  counted_all l [] k = k
  counted_all l (y ∷ ys) k = counted_all (after_one (lamp_step d s) l y) ys (counted_next l y k)

  counted_run : (ys : List (List ℕ)) → Counted (lamp_run (lamp_step d s) (length ks) ys)
  unfolding lamp_run
  counted_run ys = counted_all _ ys (fresh_record_lem lamp_cap ks)

  light_at : (r : List ℕ) (i : ℕ) → i < pilots_most → get_or (lights pilots_most r) i 0 ≡ bit (lit r i)
  unfolding lights
  light_at r i h = get_d_tabulate (λ q. bit (lit r q)) pilots_most 0 i h

  -- past the last pilot no light is lit
  dark_past : (r : List ℕ) (i : ℕ) → length r ≤ suc i → get_or (lights pilots_most r) i 0 ≡ 0
  dark_past r i h =
      by_cases (dec_lt i pilots_most)
      (λ b. light_at r i b ∙ ap bit none)
      (λ b. unfold lights in (get_or-eq_default (tabulate (λ q. bit (lit r q)) pilots_most) 0 (omega (arith, length_tabulate (λ q. bit (lit r q)) pilots_most))))
    where
      none : lit r i ≡ false
      none =
          unfold lit in (rw (get_or-eq_default r 0 {n = suc i} h)
          (by_cases (dec_lt 0 (get_or r 0 0))
          (λ c. rw (lt-ltb 0 (get_or r 0 0) c) (ne_eqb 0 (get_or r 0 0) (λ z. omega arith)))
          (λ c. rw (le-ltb 0 (get_or r 0 0) (omega arith)) refl)))

  run_claims : (ys : List (List ℕ)) → RunClaims lamp_cap ks d.subcarriers (lamp_step d s) ys
  run_claims ys =
      let hs : List (List ℕ) = (lamp_run (lamp_step d s) (length ks) ys).heard in
      let is = counted_run ys in
      let heard : (y : List ℕ) → length y ≡ d.subcarriers → lamp_step d s (lamp_run (lamp_step d s) (length ks) ys).counts y ≡ shows (length ks) (after (y ∷ hs)) =
      λ y h. ap (λ (r : List ℕ). lamp_step d s r y) is ∙ step_full hs y h in
      record {
        counted = is;
        afresh = λ i l. ap (λ (r : List ℕ). lit r i) is ∙ lights_afresh lamp_cap ks (omega arith) hs i l;
        hears = λ y h. ap (λ (x : Hearing). x.answer.answer) (heard y h);
        refuses = λ y h. ap (λ (r : List ℕ). (lamp_step d s r y).answer.answer) is ∙ ap (λ (x : Hearing). x.answer.answer) (step_other hs y h);
        answered = λ y h i l.
            ap (λ (x : Hearing). get_or x.answer.lights i 0) (heard y h)
            ∙ light_at (after (y ∷ hs)) i (omega (arith, l, few d fits s fine)) ∙ ap bit (lights_afresh lamp_cap ks (omega arith) (y ∷ hs) i l);
        past = λ y h i l. ap (λ (x : Hearing). get_or x.answer.lights i 0) (heard y h) ∙ dark_past (after (y ∷ hs)) i (omega (arith, l, length_record lamp_cap ks (y ∷ hs)));
      }

pub lamp_claims : (d : Device) → Fits d → (s : List ℕ) → LampClaims d s
lamp_claims d fits s = record { steps = step_claims d s; runs = λ n e. run_claims d fits s (no_ground d s n (sym e)) }
