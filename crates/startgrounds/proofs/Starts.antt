-- The verdict on a fresh start: one law for each return, what it says where no ground holds, and what the start then answers and leaves. Assumes
-- nothing.
use mathlib.Core.Path.{◌≡◌, refl, sym, ap, ◌∙◌, subst}
use mathlib.Core.Bool.{Bool, true, false}
use mathlib.Core.List.{List, ◌++◌}
use Prim.Native.Nat.{ℕ, ◌-◌, ◌*◌, ◌≤◌, ◌<◌}
use native.Mathlib.Nat.{mul-le-mul}
use native.Mathlib.Omega.{arith}
use lib.Dec.{leb, ltb}
use lib.ListN.{length, get_or, take, replicate}
use lib.Seq.{sets, take_at}
use borrow.Author.Tests.{lt-ltb, le-ltb, le-leb, lt-leb, leb-false, ltb-false}
use Rattle.counting.specs.Search.{pick, when}
use Rattle.rules.specs.declared.Device.{Device}
use Rattle.rules.specs.declared.Refusal.{Refusal}
use Rattle.rules.specs.Refusals.{Finding, Verdict, CountAnswer, refused_by}
use Rattle.std.specs.Prelude.{Ok, Err}
use Rattle.rules.specs.Device.{phases}
use Rattle.rules.specs.Plan.{plan_of}
use Rattle.rules.specs.Fits.{Fits, capacity}
use Rattle.rules.specs.Grounds.{◌else◌, ground?, grounds1to15, answer, verdict}
use Rattle.rules.specs.Frame.{Frame, frame_of, cells, spot, filler}
use Rattle.rules.specs.Places.{receiver_delay, places_before}
use Rattle.rules.specs.Store.{emitter_places, receiver_places, fresh_store, filler_store}
use Rattle.rules.specs.Steps as first
use Rattle.rules.specs.Steps.{Starting, starts, ground16, short_store, start_grounds, start_step}
use Rattle.rules.specs.Receive.{Listening, listens, frame_listen, listen_step}
use Rattle.rules.proofs.Findings.{both_fine, when_fine}
use Rattle.facts.proofs.Accepted.{long, depth_in}
use Rattle.verdicts.specs.Studied.{Studied}
use Rattle.rules.proofs.Answered.{accepted_is, refused_is, accepted_cells}
use Rattle.verdicts.proofs.Verdicts.{else_assoc, no_ground, first_ground}
use Rattle.spots.proofs.Frames.{cells_le}
use Rattle.places.proofs.Sizes.{both_sizes}
use Rattle.figure.specs.Steps as second
use Rattle.figure.specs.Steps.{ground27, figure_start_grounds, fresh_literal, figure_start_step}
use Rattle.figure.specs.Needs.{places17, places27, fresh_grounds, start_of}
use Rattle.figure.proofs.Needs.{first_start, second_start}
use Rattle.flushes.specs.Spotted.{Spotted}
use Rattle.flushes.proofs.Fresh.{all_filler}
use Rattle.startgrounds.specs.Admit.{phase_verdict, start_finding, emitter_verdict, none, receiver_answer}

-- ---- the numbers of a start

-- N_I cells fit an array
pub few : (d : Device) (s : List ℕ) (n : ℕ) → Fits d → n ≡ cells (frame_of d (plan_of s)) → n ≤ capacity
unfolding frame_of
few d s n fits e = omega (arith, e, cells_le (frame_of d (plan_of s)), fits.few)

-- a receiver's are no more than 4,096 times 128
pub receiver_small : (m n : ℕ) → 0 < m → m ≤ phases → n ≤ capacity → places_before (receiver_delay m) n ≤ capacity * phases
receiver_small m n pos hm hn =
    omega (arith, both_sizes m n pos, mul-le-mul {n₁ = n} {m₁ = m - 1} {n₂ = capacity} {m₂ = phases} hn (let h : m - 1 ≤ phases = omega arith in h))

-- ---- grounds 1 to 16

-- what is known of a plan and a phase where none of them holds
pub record StartInOrder (d : Device) (s : List ℕ) (j n : ℕ) : Type 0 where
  pub fine : grounds1to15 d s ≡ Ok tt
  pub long : 8 ≤ length s
  pub all : n ≡ cells (frame_of d (plan_of s))
  pub inside : j < phases

module _ (d : Device) (s : List ℕ) (j : ℕ) where
  -- the verdict as a function of what is found first and of the test of 16
  early : Finding → Bool → Verdict
  early f b = answer (f else ground? 16 (when b 0)) (cells (frame_of d (plan_of s)))

  early_is : early (grounds1to15 d s) (leb phases j) ≡ phase_verdict d s j
  unfolding phase_verdict ground16 frame_of early
  early_is = refl

  pub by_plan : (g place : ℕ) → refused_by g place ≡ verdict d s → refused_by g place ≡ phase_verdict d s j
  unfolding early
  by_plan g place e = sym (ap (λ (f : Finding). early f (leb phases j)) (first_ground d s g place e)) ∙ early_is

  module _ (n : ℕ) (ok : Ok n ≡ verdict d s) where
    pub by_phase : phases ≤ j → refused_by 16 0 ≡ phase_verdict d s j
    unfolding early
    by_phase h = sym (λ i. early (no_ground d s n ok i) (le-leb phases j h i)) ∙ early_is

    pub by_none_of_16 : j < phases → Ok n ≡ phase_verdict d s j
    unfolding early
    by_none_of_16 h = ap (λ (k : ℕ). Ok k) (accepted_cells d s n ok) ∙ sym (λ i. early (no_ground d s n ok i) (lt-leb phases j h i)) ∙ early_is

  pub in_order : (n : ℕ) → Ok n ≡ phase_verdict d s j → StartInOrder d s j n
  unfolding phase_verdict ground16 frame_of
  in_order n e =
      let a = accepted_is (grounds1to15 d s else ground16 (frame_of d (plan_of s)) j) n (cells (frame_of d (plan_of s))) e in
      let both = both_fine (grounds1to15 d s) (ground16 (frame_of d (plan_of s)) j) a.0 in
      record { fine = both.0; long = long d s both.0; all = a.1; inside = leb-false phases j (when_fine 16 0 (leb phases j) both.1) }

-- ---- grounds 1 to 17 and 27, of an end whose store needs so many places

module _ (by17 by27 : Frame → ℕ) (d : Device) (s : List ℕ) (j : ℕ) (store : List ℕ) where
  abbrev need : ℕ
  need = by17 (frame_of d (plan_of s))

  abbrev lines : ℕ
  lines = by27 (frame_of d (plan_of s))

  -- what is found, as a function of what is found first and of the tests of 17 and 27
  found : Finding → Bool → Bool → Finding
  found f b c = f else ground? 17 (when b 0) else ground? 27 (when c 0)

  first16 : Finding
  first16 = grounds1to15 d s else ground16 (frame_of d (plan_of s)) j

  found_is : start_finding by17 by27 d s j store ≡ found first16 (ltb (length store) need) (ltb (length store) lines)
  unfolding found first16 start_finding fresh_grounds ground27 short_store
  found_is = sym (else_assoc (grounds1to15 d s) (ground16 (frame_of d (plan_of s)) j) (ground? 17 (when (ltb (length store) need) 0) else ground? 27 (when (ltb (length store) lines) 0)))

  -- one law for each return
  pub by_earlier : (g place : ℕ) → refused_by g place ≡ phase_verdict d s j → start_finding by17 by27 d s j store ≡ refused_by g place
  unfolding phase_verdict found first16
  by_earlier g place e =
      found_is ∙ ap (λ (f : Finding). found f (ltb (length store) need) (ltb (length store) lines)) (refused_is first16 g place (cells (frame_of d (plan_of s))) e)

  module _ (n : ℕ) (ok : Ok n ≡ phase_verdict d s j) where
    passed : first16 ≡ Ok tt
    unfolding phase_verdict first16
    passed = (accepted_is first16 n (cells (frame_of d (plan_of s))) ok).0

    pub by_store : length store < need → start_finding by17 by27 d s j store ≡ refused_by 17 0
    unfolding found
    by_store h = found_is ∙ (λ i. found (passed i) (lt-ltb (length store) need h i) (ltb (length store) lines))

    pub by_lines : need ≤ length store → length store < lines → start_finding by17 by27 d s j store ≡ refused_by 27 0
    unfolding found
    by_lines h l = found_is ∙ (λ i. found (passed i) (le-ltb (length store) need h i) (lt-ltb (length store) lines l i))

    pub by_none : need ≤ length store → lines ≤ length store → start_finding by17 by27 d s j store ≡ Ok tt
    unfolding found
    by_none h l = found_is ∙ (λ i. found (passed i) (le-ltb (length store) need h i) (le-ltb (length store) lines l i))

  -- what is known where nothing is found
  nothing_found : start_finding by17 by27 d s j store ≡ Ok tt
      → (Ok (cells (frame_of d (plan_of s))) ≡ phase_verdict d s j) × (need ≤ length store) × (lines ≤ length store)
  unfolding found first16 phase_verdict
  nothing_found e =
      let short : Finding = ground? 17 (when (ltb (length store) need) 0) in
      let few-lines : Finding = ground? 27 (when (ltb (length store) lines) 0) in
      let both = both_fine first16 (short else few-lines) (sym found_is ∙ e) in
      let late = both_fine short few-lines both.1 in (
        sym (ap (λ (f : Finding). answer f (cells (frame_of d (plan_of s)))) both.0),
        ltb-false (length store) need (when_fine 17 0 _ late.0),
        ltb-false (length store) lines (when_fine 27 0 _ late.1),
      )

-- ---- what the start then answers and leaves

-- one answer where nothing is found, else one by the refusal
after : {A : Type 0} → A → (Refusal → A) → Finding → A
after x y f = elim f [ Ok _ ↦ x | Err r ↦ y r ]

after_else : {A : Type 0} (x : A) (y : Refusal → A) (f g : Finding) → after x y (f else g) ≡ after (after x y g) y f
unfolding after
after_else x y (Ok tt) g = refl
after_else x y (Err r) g = refl

-- ---- a fresh emitter

module _ (literal : Bool) (d : Device) (s : List ℕ) (j : ℕ) (store : List ℕ) where
  abbrev pub finds : Finding
  finds = start_finding (places17 literal) (places27 literal) d s j store

  -- from what is found to the verdict
  pub emitter_refused : (g place : ℕ) → finds ≡ refused_by g place → refused_by g place ≡ emitter_verdict literal d s j store
  unfolding emitter_verdict
  emitter_refused g place e = sym (ap (λ (f : Finding). answer f (cells (frame_of d (plan_of s)))) e)

  pub emitter_accepted : (n : ℕ) → n ≡ cells (frame_of d (plan_of s)) → finds ≡ Ok tt → Ok n ≡ emitter_verdict literal d s j store
  unfolding emitter_verdict
  emitter_accepted n en e = ap (λ (k : ℕ). Ok k) en ∙ sym (ap (λ (f : Finding). answer f (cells (frame_of d (plan_of s)))) e)

  -- and back
  verdict_fine : (n : ℕ) → Ok n ≡ emitter_verdict literal d s j store → (finds ≡ Ok tt) × (n ≡ cells (frame_of d (plan_of s)))
  unfolding emitter_verdict
  verdict_fine n e = accepted_is finds n (cells (frame_of d (plan_of s))) e

  verdict_ground : (g place : ℕ) → refused_by g place ≡ emitter_verdict literal d s j store → finds ≡ refused_by g place
  unfolding emitter_verdict
  verdict_ground g place e = refused_is finds g place (cells (frame_of d (plan_of s))) e

  pub admitted : (n : ℕ) → Ok n ≡ emitter_verdict literal d s j store
      → StartInOrder d s j n × (places17 literal (frame_of d (plan_of s)) ≤ length store) × (places27 literal (frame_of d (plan_of s)) ≤ length store)
  admitted n e =
      let v = verdict_fine n e in
      let known = nothing_found (places17 literal) (places27 literal) d s j store v.0 in
      (in_order d s j n (ap (λ (k : ℕ). Ok k) v.1 ∙ known.0), known.1, known.2)

-- the store that either emitter's start makes
abbrev pub made_store : Bool → Frame → ℕ → List ℕ → List ℕ
made_store literal F j store = pick literal (fresh_literal F j store) (fresh_store F j store)

module _ (d : Device) (s : List ℕ) (j : ℕ) (store : List ℕ) where
  start_after : Bool → Finding → Starting
  start_after literal = after (starts (Ok (record { phase = j })) (made_store literal (frame_of d (plan_of s)) j store)) (λ r. starts (Err r) store)

  start_is : (literal : Bool) → start_after literal (finds literal d s j store) ≡ start_of literal d s j store
  unfolding start_step first.frame_start figure_start_step second.frame_start start_finding start_after after
  start_is false =
      ap (λ (f : Finding). start_after false (grounds1to15 d s else f)) (first_start (frame_of d (plan_of s)) (emitter_places (frame_of d (plan_of s))) j store)
      ∙ after_else _ _ (grounds1to15 d s) (start_grounds (frame_of d (plan_of s)) (emitter_places (frame_of d (plan_of s))) j store)
  start_is true =
      ap (λ (f : Finding). start_after true (grounds1to15 d s else f)) (second_start (frame_of d (plan_of s)) j store)
      ∙ after_else _ _ (grounds1to15 d s) (figure_start_grounds (frame_of d (plan_of s)) j store)

module _ (literal : Bool) (d : Device) (s : List ℕ) (j : ℕ) (store : List ℕ) where
  pub start_refused : (g place : ℕ) → refused_by g place ≡ emitter_verdict literal d s j store → starts (refused_by g place) store ≡ start_of literal d s j store
  unfolding start_after after
  start_refused g place e = sym (ap (start_after d s j store literal) (verdict_ground literal d s j store g place e)) ∙ start_is d s j store literal

  pub started : (n : ℕ) → Ok n ≡ emitter_verdict literal d s j store → (st : List ℕ) → st ≡ made_store literal (frame_of d (plan_of s)) j store
      → starts (Ok (record { phase = j })) st ≡ start_of literal d s j store
  unfolding start_after after
  started n e st made =
      ap (starts (Ok (record { phase = j }))) made ∙ sym (ap (start_after d s j store literal) (verdict_fine literal d s j store n e).0) ∙ start_is d s j store literal

-- ---- a fresh receiver

-- what an answer says of its finding
counted : Finding → ℕ → CountAnswer
counted f n = after (Ok n) Err f

count_is : (f : Finding) (n m : ℕ) → Ok n ≡ counted f m → (f ≡ Ok tt) × (n ≡ m)
unfolding counted after
count_is (Ok tt) n m e = (refl, cc)
count_is (Err r) n m e = let z : ◌≡◌ {A = ℕ} 0 1 = cc in absurd (omega arith)

ground_is : (f : Finding) (g k m : ℕ) → refused_by g k ≡ counted f m → f ≡ refused_by g k
unfolding counted after
ground_is (Ok tt) g k m e = let z : ◌≡◌ {A = ℕ} 0 1 = cc in absurd (omega arith)
ground_is (Err r) g k m e = cc

module _ (d : Device) (s : List ℕ) (j : ℕ) (store : List ℕ) where
  answer_is : receiver_answer d s j store ≡ counted (start_finding receiver_places none d s j store) (receiver_places (frame_of d (plan_of s)))
  unfolding receiver_answer counted after
  answer_is = refl

  -- from what is found to the answer
  pub receiver_refused : (g place : ℕ) → start_finding receiver_places none d s j store ≡ refused_by g place → refused_by g place ≡ receiver_answer d s j store
  unfolding counted after
  receiver_refused g place e = sym (answer_is ∙ ap (λ (f : Finding). counted f (receiver_places (frame_of d (plan_of s)))) e)

  pub receiver_counted : (n : ℕ) → n ≡ receiver_places (frame_of d (plan_of s)) → start_finding receiver_places none d s j store ≡ Ok tt → Ok n ≡ receiver_answer d s j store
  unfolding counted after
  receiver_counted n en e = ap (λ (k : ℕ). Ok k) en ∙ sym (answer_is ∙ ap (λ (f : Finding). counted f (receiver_places (frame_of d (plan_of s)))) e)

  -- and back
  answer_fine : (n : ℕ) → Ok n ≡ receiver_answer d s j store → (start_finding receiver_places none d s j store ≡ Ok tt) × (n ≡ receiver_places (frame_of d (plan_of s)))
  answer_fine n e = count_is (start_finding receiver_places none d s j store) n (receiver_places (frame_of d (plan_of s))) (e ∙ answer_is)

  pub places_fit : (n : ℕ) → Ok n ≡ receiver_answer d s j store → n ≤ length store
  places_fit n e =
      let v = answer_fine n e in
      omega (arith, v.1, (nothing_found receiver_places none d s j store v.0).1)

  listen_after : Finding → Listening
  listen_after = after (listens (Ok (record { phase = j; heard = 0 })) (filler_store (frame_of d (plan_of s)) store)) (λ r. listens (Err r) store)

  listen_is : listen_after (start_finding receiver_places none d s j store) ≡ listen_step d s j store
  unfolding listen_step frame_listen start_finding listen_after after
  listen_is =
      ap (λ (f : Finding). listen_after (grounds1to15 d s else f)) (first_start (frame_of d (plan_of s)) (receiver_places (frame_of d (plan_of s))) j store)
      ∙ after_else _ _ (grounds1to15 d s) (start_grounds (frame_of d (plan_of s)) (receiver_places (frame_of d (plan_of s))) j store)

  pub listen_refused : (g place : ℕ) → refused_by g place ≡ receiver_answer d s j store → listens (refused_by g place) store ≡ listen_step d s j store
  unfolding listen_after after
  listen_refused g place e =
      sym (ap listen_after (ground_is (start_finding receiver_places none d s j store) g place (receiver_places (frame_of d (plan_of s))) (e ∙ answer_is))) ∙ listen_is

  pub listening : (n : ℕ) → Ok n ≡ receiver_answer d s j store → (st : List ℕ) → st ≡ sets store 0 (replicate n filler)
      → listens (Ok (record { phase = j; heard = 0 })) st ≡ listen_step d s j store
  unfolding listen_after after
  listening n e st made =
      let v = answer_fine n e in
      ap (listens (Ok (record { phase = j; heard = 0 }))) (made ∙ all_filler (frame_of d (plan_of s)) store n v.1) ∙ sym (ap listen_after v.0) ∙ listen_is

-- ---- what an emitter's places are made from, once the first n places hold the subcarriers of the n cells

module _ (d : Device) (s : List ℕ) (j n : ℕ) (fits : Fits d) (deep : d.depth_max ≤ phases) (a : StartInOrder d s j n) where
  -- the depth
  pub depth_small : (0 < (plan_of s).depth) × ((plan_of s).depth ≤ phases)
  depth_small = let depth = depth_in d s a.fine in (depth.0, omega (arith, depth.1, deep))

  made_from : (marks kc : List ℕ) → Studied d s marks → length kc ≡ n → ((p : ℕ) → p < n → get_or kc p 0 ≡ spot (frame_of d (plan_of s)) p) → Spotted d s kc
  made_from marks kc w en made = record {
    fits = fits;
    long = a.long;
    plc_high = w.plc_high;
    deep = depth_small.0;
    shallow = depth_small.1;
    few = omega (arith, en, few d s n fits a.all);
    all = en ∙ a.all;
    spots = λ p h. made p (omega (arith, h, en));
  }

  pub spotted : (marks kc rest : List ℕ) → Studied d s marks → length kc ≡ n → ((p : ℕ) → p < n → get_or kc p 0 ≡ spot (frame_of d (plan_of s)) p) → Spotted d s (take n (kc ++ rest))
  spotted marks kc rest w en made = subst (Spotted d s) (sym (take_at kc rest n en)) (made_from marks kc w en made)
