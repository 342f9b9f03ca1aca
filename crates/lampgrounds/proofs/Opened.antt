-- The opening of the lamp's step, ground by ground, and what its answer says. Assumes nothing.
use Prim.Native.Nat.{ℕ}
use mathlib.Core.Path.{◌≡◌, refl, sym, ap, ◌∙◌}
use mathlib.Core.Bool.{Bool, true, false}
use mathlib.Core.List.{List}
use lib.ListN.{length}
use borrow.Author.Tests.{eq-eqb, ne_eqb}
use Rattle.counting.specs.Search.{when}
use Rattle.rules.specs.declared.Device.{Device}
use Rattle.rules.specs.declared.Refusal.{Refusal}
use Rattle.rules.specs.Refusals.{Finding, CountAnswer, refusal, refused_by}
use Rattle.std.specs.Prelude.{Ok, Err}
use Rattle.rules.specs.Plan.{plan_of}
use Rattle.rules.specs.Grounds.{◌else◌, ground?, grounds1to15}
use Rattle.rules.proofs.Findings.{not_fine, both_fine, when_fine, by_finding}
use Rattle.pilots.specs.declared.PilotAnswer.{PilotAnswer}
use Rattle.pilots.specs.Pilots.{continuous_pilots, listing, no_listing, pilots_answer}
use Rattle.pilots.proofs.Listing.{answer_fine, answer_ground}
use Rattle.lamprecord.specs.Record.{lamp_cap, bad_record}
use Rattle.lampgrounds.specs.Steps.{lamp_grounds, lamp_finding}
use Rattle.lampgrounds.specs.Opening.{opening}

-- ---- answers told apart

abbrev count : CountAnswer → ℕ
count (Ok n) = n
count (Err a) = 0

not_both : {n : ℕ} {a : Refusal} → ◌≡◌ {A = CountAnswer} (Ok n) (Err a) → ⊥
not_both e = not_fine (sym e)

-- ---- the findings

module _ (ks : List ℕ) (width : ℕ) (r : List ℕ) (n : ℕ) where
  bad : bad_record lamp_cap (length ks) r ≡ true → lamp_grounds ks width r n ≡ refused_by 28 0
  unfolding lamp_grounds
  bad h = rw h refl

  other : bad_record lamp_cap (length ks) r ≡ false → (n ≡ width → ⊥) → lamp_grounds ks width r n ≡ refused_by 17 0
  unfolding lamp_grounds
  other h e = rw (h, ne_eqb n width e) refl

  none : bad_record lamp_cap (length ks) r ≡ false → n ≡ width → lamp_grounds ks width r n ≡ Ok tt
  unfolding lamp_grounds
  none h e = rw (h, eq-eqb n width e) refl

  -- nothing is found in a good record alone
  good : lamp_grounds ks width r n ≡ Ok tt → bad_record lamp_cap (length ks) r ≡ false
  unfolding lamp_grounds
  good e = when_fine 28 0 (bad_record lamp_cap (length ks) r) (both_fine (ground? 28 (when (bad_record lamp_cap (length ks) r) 0)) _ e).0

module _ (d : Device) (s r : List ℕ) (n : ℕ) where
  abbrev ks : List ℕ
  ks = continuous_pilots d (plan_of s)

  finding_later : grounds1to15 d s ≡ Ok tt → lamp_finding d s r n ≡ lamp_grounds ks d.subcarriers r n
  unfolding lamp_finding
  finding_later e = ap (λ (f : Finding). f else lamp_grounds ks d.subcarriers r n) e

  finding_early : (a : Refusal) → grounds1to15 d s ≡ Err a → lamp_finding d s r n ≡ Err a
  unfolding lamp_finding
  finding_early a e = ap (λ (f : Finding). f else lamp_grounds ks d.subcarriers r n) e

  -- under an accepted plan
  pub finding_fine : grounds1to15 d s ≡ Ok tt → bad_record lamp_cap (length ks) r ≡ false → n ≡ d.subcarriers → lamp_finding d s r n ≡ Ok tt
  finding_fine e h l = finding_later e ∙ none ks d.subcarriers r n h l

  pub finding_17 : grounds1to15 d s ≡ Ok tt → bad_record lamp_cap (length ks) r ≡ false → (n ≡ d.subcarriers → ⊥) → lamp_finding d s r n ≡ refused_by 17 0
  finding_17 e h l = finding_later e ∙ other ks d.subcarriers r n h l

  opening_fine : lamp_finding d s r n ≡ Ok tt → listing ks ≡ opening d s r n
  unfolding opening
  opening_fine e = rw (e, opening) refl

  opening_ground : (a : Refusal) → lamp_finding d s r n ≡ Err a → no_listing a ≡ opening d s r n
  unfolding opening
  opening_ground a e = rw (e, opening) refl

  -- ---- by the answer of the pilots

  -- an accepted plan
  pub accepted_plan : (m : ℕ) (p : PilotAnswer) → p ≡ pilots_answer d s → p.answer ≡ Ok m → (grounds1to15 d s ≡ Ok tt) × (m ≡ length ks)
  accepted_plan m p is e =
      by_finding (grounds1to15 d s)
      (λ fine. (fine, ap count (sym e ∙ ap (λ (q : PilotAnswer). q.answer) (is ∙ sym (answer_fine d s fine)))))
      (λ g place h. absurd (not_both (sym e ∙ ap (λ (q : PilotAnswer). q.answer) (is ∙ sym (answer_ground d s (refusal g place) h)))))

  -- a refused one
  pub open_refused : (a : Refusal) (p : PilotAnswer) → p ≡ pilots_answer d s → p.answer ≡ Err a → p ≡ opening d s r n
  open_refused a p is e =
      by_finding (grounds1to15 d s)
      (λ fine. absurd (not_both (ap (λ (q : PilotAnswer). q.answer) (answer_fine d s fine ∙ sym is) ∙ e)))
      (λ g place h. is ∙ sym (answer_ground d s (refusal g place) h) ∙ opening_ground (refusal g place) (finding_early (refusal g place) h))

  module _ (m : ℕ) (p : PilotAnswer) (is : p ≡ pilots_answer d s) (e : p.answer ≡ Ok m) where
    fine : grounds1to15 d s ≡ Ok tt
    fine = (accepted_plan m p is e).0

    -- 28 and 17 with the number of pilots that was answered
    bad_record_lem : (b : Bool) → bad_record lamp_cap m r ≡ b → bad_record lamp_cap (length ks) r ≡ b
    bad_record_lem b h = sym (ap (λ (q : ℕ). bad_record lamp_cap q r) (accepted_plan m p is e).1) ∙ h

    pub open_28 : bad_record lamp_cap m r ≡ true → no_listing (refusal 28 0) ≡ opening d s r n
    open_28 h = opening_ground (refusal 28 0) (finding_later fine ∙ bad ks d.subcarriers r n (bad_record_lem true h))

    pub open_17 : bad_record lamp_cap m r ≡ false → (n ≡ d.subcarriers → ⊥) → no_listing (refusal 17 0) ≡ opening d s r n
    open_17 h l = opening_ground (refusal 17 0) (finding_17 fine (bad_record_lem false h) l)

    pub open_fine : bad_record lamp_cap m r ≡ false → n ≡ d.subcarriers → p ≡ opening d s r n
    open_fine h l = is ∙ sym (answer_fine d s fine) ∙ opening_fine (finding_fine fine (bad_record_lem false h) l)

  -- ---- what the answer of the opening says

  pub record OpenFine (m : ℕ) (p : PilotAnswer) : Type 0 where
    pub grounds : grounds1to15 d s ≡ Ok tt
    pub finding : lamp_finding d s r n ≡ Ok tt
    pub number : m ≡ length ks
    pub list : p ≡ listing ks
    pub good : bad_record lamp_cap (length ks) r ≡ false

  pub opened_fine : (m : ℕ) (p : PilotAnswer) → p ≡ opening d s r n → p.answer ≡ Ok m → OpenFine m p
  opened_fine m p is e =
      by_finding (lamp_finding d s r n)
      (λ f.
      by_finding (grounds1to15 d s)
      (λ h. record {
        grounds = h;
        finding = f;
        number = ap count (sym e ∙ ap (λ (q : PilotAnswer). q.answer) (is ∙ sym (opening_fine f)));
        list = is ∙ sym (opening_fine f);
        good = good ks d.subcarriers r n (sym (finding_later h) ∙ f);
      })
      (λ g place h. absurd (not_fine (sym (finding_early (refusal g place) h) ∙ f))))
      (λ g place f. absurd (not_both (sym e ∙ ap (λ (q : PilotAnswer). q.answer) (is ∙ sym (opening_ground (refusal g place) f)))))

  pub opened_ground : (a : Refusal) (p : PilotAnswer) → p ≡ opening d s r n → p.answer ≡ Err a → lamp_finding d s r n ≡ Err a
  opened_ground a p is e =
      by_finding (lamp_finding d s r n)
      (λ f. absurd (not_both (ap (λ (q : PilotAnswer). q.answer) (opening_fine f ∙ sym is) ∙ e)))
      (λ h at f.
      let same = sym e ∙ ap (λ (q : PilotAnswer). q.answer) (is ∙ sym (opening_ground (refusal h at) f)) in
      let is_same : a ≡ refusal h at = cc in
      f ∙ ap Err (sym is_same))
