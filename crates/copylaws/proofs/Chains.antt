-- The chain of the copy: that of the plan but for next indices, and then the new record; and its grounds 2 to 5. Assumes nothing.
use Prim.Native.Nat.{ℕ, zero, suc, ◌+◌, ◌*◌, ◌/◌, ◌%◌, ◌≤◌, ◌<◌}
use mathlib.Core.Path.{◌≡◌, refl, sym, ap, ◌∙◌}
use mathlib.Core.Bool.{Bool, true, false, not, ◌&&◌}
use mathlib.Core.List.{List, [], ◌∷◌, ◌++◌, map}
use native.Mathlib.Omega.{arith}
use lib.Dec.{leb, eqb}
use lib.ListN.{length}
use borrow.Author.Tests.{ne_eqb}
use Rattle.counting.specs.Search.{bit, when}
use Rattle.counting.proofs.Bools.{by_test, and_false}
use Rattle.rules.specs.declared.Device.{Device}
use Rattle.rules.specs.Refusals.{Finding}
use Rattle.std.specs.Prelude.{Ok, Err}
use Rattle.rules.specs.Plan.{Entry, entry, leads, chain_from, is_pilot}
use Rattle.rules.specs.Grounds.{◌else◌, ground?, bad_form, bad_next, bad_numbers, pilots_max, record_grounds, chain_grounds}
use Rattle.chains.proofs.Steps.{chain_ends, chain_on, leads_on, leads_up, leads_low}
use Rattle.rules.proofs.Findings.{not_fine, both_fine}
use Rattle.chains.specs.Last.{last_of, last_index}
use Rattle.chains.proofs.LastLaws.{last_from}
use Rattle.copies.specs.Copy.{copy_with}
use Rattle.copylaws.specs.Entries.{linked, unlinked, range_entry}
use Rattle.copylaws.proofs.Records.{other_record, last_record, new_record}

-- ---- grounds 2 to 5 of an entry with another next index that leads on

four_fine : (a b c t : Bool) (i : ℕ) → (ground? 2 (when a i) else ground? 3 (when b i) else ground? 4 (when c i) else ground? 5 (when t i)) ≡ Ok tt
    → (a ≡ false) × (c ≡ false) × (t ≡ false)
four_fine true b c t i g = absurd (not_fine g)
four_fine false true c t i g = absurd (not_fine g)
four_fine false false true t i g = absurd (not_fine g)
four_fine false false false true i g = absurd (not_fine g)
four_fine false false false false i g = (refl, refl, refl)

leads_fine : (r : ℕ) (e : Entry) → leads r e.index e.next ≡ true → bad_next r e ≡ false
unfolding bad_next
leads_fine r e h = ap (λ (t : Bool). not (eqb e.next 0) && not t) h ∙ and_false (not (eqb e.next 0))

pub relinked_fine : (d : Device) (r q np n : ℕ) (e : Entry) → record_grounds d r np e ≡ Ok tt → leads q e.index n ≡ true → record_grounds d q np (linked n e) ≡ Ok tt
unfolding record_grounds bad_form bad_numbers
relinked_fine d r q np n e f h =
    let t = four_fine (bad_form e) (bad_next r e) (bad_numbers d e) (is_pilot e && leb pilots_max np) e.index f in
    rw (t.0, leads_fine q (linked n e) h, t.1, t.2) refl

else_fine : (f : Finding) → (f else Ok tt) ≡ f
else_fine (Ok tt) = refl
else_fine (Err r) = refl

-- the new record: only its range can be refused
pub new_grounds : (d : Device) (r np a b : ℕ) → 0 < r → chain_grounds d (suc r) np (range_entry r a b ∷ []) ≡ ground? 4 (when (bad_numbers d (range_entry r a b)) r)
unfolding chain_grounds record_grounds bad_form bad_next
new_grounds d r np a b h = rw (ne_eqb r 0 (λ e. omega arith)) (else_fine _ ∙ else_fine _)

module _ (d : Device) (s : List ℕ) (a b : ℕ) (whole : length s % 8 ≡ 0) (inside : 8 * last_index s + 7 < length s) where
  abbrev records : ℕ
  records = length s / 8

  abbrev new : Entry
  new = range_entry records a b

  -- the rest of the chain from record i on, after np pilots
  pub record CopiedFrom (steps i np : ℕ) : Type 0 where
    pub same : map unlinked (chain_from (copy_with s a b) (suc records) (suc steps) i) ≡ map unlinked (chain_from s records steps i) ++ new ∷ []
    pub grounds : chain_grounds d (suc records) np (chain_from (copy_with s a b) (suc records) (suc steps) i) ≡ ground? 4 (when (bad_numbers d new) records)

  -- one record more at i: the grounds of it, and of those after it
  more_grounds : (np : ℕ) (e : Entry) (es : List Entry) (g : Finding) → record_grounds d (suc records) np e ≡ Ok tt → chain_grounds d (suc records) (np + bit (is_pilot e)) es ≡ g
      → chain_grounds d (suc records) np (e ∷ es) ≡ g
  unfolding chain_grounds
  more_grounds np e es g p q = ap (λ (x : Finding). x else chain_grounds d (suc records) (np + bit (is_pilot e)) es) p ∙ q

  -- record i leads on to j
  on_step : (n i np : ℕ) → i < records → (i ≡ last_index s → ⊥) → leads records i (entry s i).next ≡ true → record_grounds d records np (entry s i) ≡ Ok tt
      → CopiedFrom n (entry s i).next (np + bit (is_pilot (entry s i))) → CopiedFrom (suc n) i np
  unfolding entry
  on_step n i np h ne e f ih =
      let up = leads_up records i (entry s i).next e in
      let is : entry (copy_with s a b) i ≡ entry s i = other_record s a b whole inside i h ne in
      let on : leads (suc records) i (entry s i).next ≡ true = leads_on (suc records) i (entry s i).next up.0 (omega (arith, up.1)) in
      let step : chain_from (copy_with s a b) (suc records) (suc (suc n)) i ≡ entry s i ∷ chain_from (copy_with s a b) (suc records) (suc n) (entry s i).next =
      chain_on (copy_with s a b) (suc records) (suc n) i (ap (λ (x : Entry). leads (suc records) i x.next) is ∙ on) ∙ ap (λ (x : Entry). x ∷ chain_from (copy_with s a b) (suc records) (suc n) x.next) is in
      record {
        same = ap (map unlinked) step ∙ ap (λ (es : List Entry). unlinked (entry s i) ∷ es) ih.same ∙ sym (ap (λ (es : List Entry). map unlinked es ++ new ∷ []) (chain_on s records n i e));
        grounds = ap (chain_grounds d (suc records) np) step ∙ more_grounds np (entry s i) _ _ (relinked_fine d records (suc records) np (entry s i).next (entry s i) f on) ih.grounds;
      }

  -- record i is the last
  last_step : (n i np : ℕ) → i < records → i ≡ last_index s → leads records i (entry s i).next ≡ false → record_grounds d records np (entry s i) ≡ Ok tt → CopiedFrom (suc n) i np
  unfolding entry
  last_step n i np h here e f =
      let is : entry (copy_with s a b) i ≡ linked records (entry s i) = rw here (last_record s a b whole inside) in
      let on : leads (suc records) i records ≡ true = leads_on (suc records) i records h (omega arith) in
      let end : chain_from (copy_with s a b) (suc records) (suc n) records ≡ new ∷ [] =
      chain_ends (copy_with s a b) (suc records) n records (ap (λ (x : Entry). leads (suc records) records x.next) (new_record s a b whole inside) ∙ leads_low (suc records) records 0 (omega arith))
      ∙ ap (λ (x : Entry). x ∷ []) (new_record s a b whole inside) in
      let step : chain_from (copy_with s a b) (suc records) (suc (suc n)) i ≡ linked records (entry s i) ∷ new ∷ [] =
      chain_on (copy_with s a b) (suc records) (suc n) i (ap (λ (x : Entry). leads (suc records) i x.next) is ∙ on) ∙ ap (λ (x : Entry). x ∷ chain_from (copy_with s a b) (suc records) (suc n) x.next) is
      ∙ ap (λ (es : List Entry). linked records (entry s i) ∷ es) end in
      record {
        same = ap (map unlinked) step ∙ sym (ap (λ (es : List Entry). map unlinked es ++ new ∷ []) (chain_ends s records n i e));
        grounds = ap (chain_grounds d (suc records) np) step ∙ more_grounds np (linked records (entry s i)) _ _ (relinked_fine d records (suc records) np records (entry s i) f on) (new_grounds d records _ a b (omega arith));
      }

  pub copied_from : (steps i np x : ℕ) → i < records → records ≤ steps + i → chain_grounds d records np (chain_from s records steps i) ≡ Ok tt → last_of x (chain_from s records steps i) ≡ last_index s
      → CopiedFrom steps i np
  unfolding chain_grounds last_of entry
  copied_from zero i np x h l f g = absurd (omega arith)
  copied_from (suc n) i np x h l f g =
      by_test (leads records i (entry s i).next)
      (λ e.
      let up = leads_up records i (entry s i).next e in
      let two = both_fine (record_grounds d records np (entry s i)) (chain_grounds d records (np + bit (is_pilot (entry s i))) (chain_from s records n (entry s i).next)) (sym (ap (chain_grounds d records np) (chain_on s records n i e)) ∙ f) in
      let last : last_of i (chain_from s records n (entry s i).next) ≡ last_index s = sym (ap (last_of x) (chain_on s records n i e)) ∙ g in
      let above = last_from s records n (entry s i).next i up.1 (omega (arith, up.0)) in
      on_step n i np h (λ z. omega (arith, up.0, above.0, last)) e two.0 (copied_from n (entry s i).next (np + bit (is_pilot (entry s i))) i up.1 (omega (arith, up.0)) two.1 last))
      (λ e.
      let two = both_fine (record_grounds d records np (entry s i)) (chain_grounds d records (np + bit (is_pilot (entry s i))) []) (sym (ap (chain_grounds d records np) (chain_ends s records n i e)) ∙ f) in
      last_step n i np h (sym (ap (last_of x) (chain_ends s records n i e)) ∙ g) e two.0)
