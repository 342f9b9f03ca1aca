-- The lamp's step from the cells at the pilots. Assumes nothing.
use Prim.Native.Nat.{ℕ, suc, ◌+◌, ◌≤◌, ◌<◌}
use mathlib.Core.Path.{◌≡◌, refl, sym, ap, ◌∙◌}
use mathlib.Core.Bool.{Bool}
use mathlib.Core.List.{List, ◌∷◌}
use native.Mathlib.Omega.{arith}
use lib.Dec.{eqb}
use lib.ListN.{length, get_or}
use Rattle.counting.specs.Search.{pick}
use Rattle.counting.proofs.Lists.{length_tabulate, get_d_tabulate, tabulate_cong}
use Rattle.rules.specs.declared.Device.{Device}
use Rattle.rules.specs.declared.Refusal.{Refusal}
use Rattle.std.specs.Prelude.{Ok, Err}
use Rattle.rules.specs.Fits.{Fits}
use Rattle.rules.specs.Plan.{plan_of}
use Rattle.rules.specs.Roles.{continuous_mark}
use Rattle.pilots.specs.declared.PilotAnswer.{PilotAnswer}
use Rattle.pilots.specs.Pilots.{pilots_most, continuous_pilots, padded, listing}
use Rattle.pilots.proofs.Listing.{get_or_padded}
use Rattle.pilots.proofs.Numbers.{few}
use Rattle.lamprecord.specs.Record.{lamp_cap, capped, holds_mark, next_by, next_record}
use Rattle.lamprecord.proofs.Steps.{good_length}
use Rattle.lampgrounds.specs.Steps.{shows, leaves_record, no_lights, lamp_finding, lamp_hears, lamp_step}
use Rattle.lampgrounds.specs.Opening.{opening, cells_at, heard_cells}
use Rattle.lampgrounds.proofs.Opened.{opened_fine, opened_ground}

-- tests that agree of n pilots
next_ext : (cap : ℕ) (t u : ℕ → Bool) (n : ℕ) (r : List ℕ) → ((i : ℕ) → i < n → t i ≡ u i) → next_by cap t n r ≡ next_by cap u n r
unfolding next_by
next_ext cap t u n r h =
    ap (λ (l : List ℕ). capped cap (get_or r 0 0 + 1) ∷ l)
    (tabulate_cong _ _ n (λ i l. ap (λ (b : Bool). pick b (capped cap (get_or r (suc i) 0 + 1)) 0) (h i l)))

-- the cells at listed pilots say which of them hold the mark
heard_next : (ks y r : List ℕ) → length ks ≤ pilots_most
    → next_by lamp_cap (λ i. eqb (get_or (cells_at (padded pilots_most ks) y) i 0) continuous_mark) (length ks) r ≡ next_record lamp_cap ks y r
unfolding next_record holds_mark cells_at
heard_next ks y r few =
    next_ext lamp_cap (λ i. eqb (get_or (cells_at (padded pilots_most ks) y) i 0) continuous_mark) (λ i. eqb (get_or y (get_or ks i 0) 0) continuous_mark) (length ks) r at
  where
    at : (i : ℕ) → i < length ks → eqb (get_or (cells_at (padded pilots_most ks) y) i 0) continuous_mark ≡ eqb (get_or y (get_or ks i 0) 0) continuous_mark
    at i h =
        let b : i < pilots_most = omega (arith, h, few) in
        ap (λ (x : ℕ). eqb x continuous_mark)
        (get_d_tabulate (λ i. get_or y (get_or (padded pilots_most ks) i 0) 0) pilots_most 0 i b ∙ ap (λ (k : ℕ). get_or y k 0) (get_or_padded pilots_most ks i b))

module _ (d : Device) (s r y : List ℕ) where
  abbrev ks : List ℕ
  ks = continuous_pilots d (plan_of s)

  pub step_refused : (a : Refusal) → lamp_finding d s r (length y) ≡ Err a → leaves_record (no_lights a) r ≡ lamp_step d s r y
  unfolding lamp_step
  step_refused a e = rw (e, lamp_step) refl

  pub step_fine : lamp_finding d s r (length y) ≡ Ok tt → lamp_hears d s r y ≡ lamp_step d s r y
  unfolding lamp_step
  step_fine e = rw (e, lamp_step) refl

  -- from the list and the number that the opening answered
  step_heard : (p : PilotAnswer) (m : ℕ) → lamp_finding d s r (length y) ≡ Ok tt → p ≡ listing ks → m ≡ length ks → length ks ≤ pilots_most
      → heard_cells (cells_at p.list y) m r ≡ lamp_step d s r y
  unfolding heard_cells lamp_hears
  step_heard p m fine is number few =
      (λ i. heard_cells (cells_at (is i).list y) (number i) r) ∙ ap (shows (length ks)) (heard_next ks y r few) ∙ step_fine fine

-- ---- after the opening

pub length_cells : (list y : List ℕ) → length (cells_at list y) ≡ pilots_most
unfolding cells_at
length_cells list y = length_tabulate (λ i. get_or y (get_or list i 0) 0) pilots_most

module _ (d : Device) (fits : Fits d) (s r y : List ℕ) (p : PilotAnswer) (is : p ≡ opening d s r (length y)) where
  -- the record has a count for each pilot
  pub room : (m : ℕ) → p.answer ≡ Ok m → (m ≤ pilots_most) × (length r ≡ suc m)
  room m e =
      let f = opened_fine d s r (length y) m p is e in
      (omega (arith, f.number, few d fits s f.grounds), good_length lamp_cap _ r f.good ∙ ap suc (sym f.number))

  pub opened_heard : (m : ℕ) → p.answer ≡ Ok m → heard_cells (cells_at p.list y) m r ≡ lamp_step d s r y
  opened_heard m e =
      let f = opened_fine d s r (length y) m p is e in
      step_heard d s r y p m f.finding f.list f.number (few d fits s f.grounds)

  pub opened_refused : (a : Refusal) → p.answer ≡ Err a → leaves_record (no_lights a) r ≡ lamp_step d s r y
  opened_refused a e = step_refused d s r y a (opened_ground d s r (length y) a p is e)
