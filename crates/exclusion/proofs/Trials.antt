-- The answer of a trial, from grounds 1 to 5 of the plan and of the copy; and of a trial whose numbers have 32 bits. Assumes nothing.
use Prim.Native.Nat.{ℕ, ◌+◌, ◌/◌, ◌≤◌, ◌<◌, min}
use mathlib.Core.Path.{◌≡◌, refl, sym, ap, ap₂, ◌∙◌}
use mathlib.Core.Logic.{by_cases}
use mathlib.Core.Bool.{Bool, true, false, ◌||◌, true≢false}
use mathlib.Core.List.{List}
use native.Mathlib.Omega.{arith}
use native.Mathlib.Decide.{dec_lt}
use lib.Dec.{ltb, leb}
use lib.ListN.{length, take}
use borrow.Author.Tests.{le-ltb, lt-ltb, le-leb, ltb-true, ltb-false}
use Rattle.counting.specs.Search.{when}
use Rattle.counting.proofs.Bools.{by_test, neither}
use Rattle.rules.specs.declared.Device.{Device}
use Rattle.rules.specs.declared.Refusal.{Refusal}
use Rattle.rules.specs.Refusals.{Finding, Verdict, refused_by}
use Rattle.std.specs.Prelude.{Ok, Err}
use Rattle.rules.specs.Plan.{plan_of}
use Rattle.rules.specs.Roles.{ranked_count}
use Rattle.rules.specs.Grounds.{◌else◌, ground?, bad_numbers, grounds1to5, grounds6to15, grounds1to15, answer, verdict}
use Rattle.copies.specs.Copy.{copy_with}
use Rattle.copylaws.specs.Entries.{range_entry}
use Rattle.copylaws.proofs.Copy.{copy_grounds, copy_fine}
use Rattle.exclusion.specs.Trial.{trial_verdict, number_max, too_large, trial_of_numbers}
use Rattle.exclusion.specs.Copied.{CopiedIf}

second : (x z : Bool) → ((x || true || z) || false) ≡ true
second true z = refl
second false z = refl

third : (x y : Bool) → ((x || y || true) || false) ≡ true
third true y = refl
third false true = refl
third false false = refl

module _ (d : Device) (s : List ℕ) (a b : ℕ) where
  -- a plan refused by 1 to 5 gives that refusal
  pub trial_refused : (r : Refusal) → grounds1to5 d s ≡ Err r → trial_verdict d s a b ≡ Err r
  unfolding trial_verdict
  trial_refused r e = rw (trial_verdict, e) refl

  -- else the copy's verdict is given
  pub trial_copy : grounds1to5 d s ≡ Ok tt → trial_verdict d s a b ≡ verdict d (copy_with s a b)
  unfolding trial_verdict
  trial_copy e = rw (trial_verdict, e) refl

  abbrev new : Bool
  new = bad_numbers d (range_entry (length s / 8) a b)

  -- from grounds 1 to 5 of the copy: its length, and the range of its new record
  by_copy : (g : Finding) → grounds1to5 d s ≡ Ok tt → grounds1to5 d (copy_with s a b) ≡ g
      → trial_verdict d s a b ≡ answer (g else grounds6to15 d (plan_of (copy_with s a b))) (ranked_count d (plan_of (copy_with s a b)))
  unfolding verdict grounds1to15
  by_copy g e h = trial_copy e ∙ ap (λ (f : Finding). answer (f else grounds6to15 d (plan_of (copy_with s a b))) (ranked_count d (plan_of (copy_with s a b)))) h

  -- 1 included: a full plan has no room for the record
  pub trial_full : grounds1to5 d s ≡ Ok tt → 4096 < length s + 8 → trial_verdict d s a b ≡ refused_by 1 0
  trial_full e l =
      by_copy (refused_by 1 0) e (copy_grounds d s a b e ∙ ap (λ (t : Bool). ground? 1 (when t 0) else ground? 4 (when new (length s / 8))) (lt-ltb 4096 (length s + 8) l))

  -- 4: a range that no record may have is refused at the new record
  pub trial_range : grounds1to5 d s ≡ Ok tt → length s + 8 ≤ 4096 → new ≡ true → trial_verdict d s a b ≡ refused_by 4 (length s / 8)
  trial_range e room bad =
      by_copy (refused_by 4 (length s / 8)) e
      (copy_grounds d s a b e ∙ ap₂ (λ (x y : Bool). ground? 1 (when x 0) else ground? 4 (when y (length s / 8))) (le-ltb 4096 (length s + 8) room) bad)

  -- any other is judged by 6 to 15
  pub trial_judged : grounds1to5 d s ≡ Ok tt → length s + 8 ≤ 4096 → a ≤ b → b < d.subcarriers
      → trial_verdict d s a b ≡ answer (grounds6to15 d (plan_of (copy_with s a b))) (ranked_count d (plan_of (copy_with s a b)))
  trial_judged e room rise top = by_copy (Ok tt) e (copy_fine d s a b e room rise top)

  pub range_above : d.subcarriers ≤ b → new ≡ true
  unfolding bad_numbers
  range_above l = ap (λ (t : Bool). (leb d.subcarriers a || t || ltb b a) || false) (le-leb d.subcarriers b l) ∙ second (leb d.subcarriers a) (ltb b a)

  pub range_backward : b < a → new ≡ true
  unfolding bad_numbers
  range_backward l =
      ap (λ (t : Bool). (leb d.subcarriers a || leb d.subcarriers b || t) || false) (lt-ltb b a l) ∙ third (leb d.subcarriers a) (leb d.subcarriers b)

-- what a copy that has been made says of any verdict
pub copied_if : (v : Verdict) (d : Device) (s : List ℕ) (a b n : ℕ) (bytes : List ℕ) → grounds1to5 d s ≡ Ok tt → take n bytes ≡ copy_with s a b → n ≤ length bytes → CopiedIf v n d s a b bytes
copied_if (Ok k) d s a b n bytes e c l = record { fine = e; copy = c; few = l }
copied_if (Err r) d s a b n bytes e c l = tt

-- ---- numbers of 32 bits

module _ (d : Device) (s : List ℕ) (few : d.subcarriers ≤ number_max) (a b : ℕ) where
  -- one of both is too large: so is the largest that a record can hold
  held_range : too_large a b ≡ true → bad_numbers d (range_entry (length s / 8) (min a number_max) (min b number_max)) ≡ true
  unfolding too_large
  held_range t =
      by_test (ltb number_max b)
      (λ e. range_above d s (min a number_max) (min b number_max) (omega (arith, ltb-true number_max b e)))
      (λ e. by_test (ltb number_max a)
      (λ f. by_cases (dec_lt (min b number_max) (min a number_max))
      (λ l. range_backward d s (min a number_max) (min b number_max) l)
      (λ l. range_above d s (min a number_max) (min b number_max) (omega (arith, ltb-true number_max a f))))
      (λ f. absurd (true≢false (sym t ∙ λ i. f i || e i))))

  -- so its trial answers what is said of one that no record can hold
  by_finding : (g : Finding) → grounds1to5 d s ≡ g → too_large a b ≡ true
      → trial_verdict d s (min a number_max) (min b number_max) ≡ answer (g else ground? 1 (when (ltb 4096 (length s + 8)) 0) else refused_by 4 (length s / 8)) 0
  by_finding (Err r) e t = trial_refused d s _ _ r e
  by_finding (Ok tt) e t =
      by_test (ltb 4096 (length s + 8))
      (λ l. rw l (trial_full d s _ _ e (ltb-true 4096 (length s + 8) l)))
      (λ l. rw l (trial_range d s _ _ e (ltb-false 4096 (length s + 8) l) (held_range t)))

  pub held_trial : trial_verdict d s (min a number_max) (min b number_max) ≡ trial_of_numbers d s a b
  unfolding trial_of_numbers too_large
  held_trial =
      by_test (too_large a b)
      (λ t. rw t (by_finding (grounds1to5 d s) refl t))
      (λ t. let two = neither (ltb number_max a) (ltb number_max b) t in rw t (λ i. trial_verdict d s (low a two.0 i) (low b two.1 i)))
    where
      low : (n : ℕ) → ltb number_max n ≡ false → min n number_max ≡ n
      low n e = omega (arith, ltb-false number_max n e)
