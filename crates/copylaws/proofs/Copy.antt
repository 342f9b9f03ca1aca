-- The copy of a plan in which no ground of 1 to 5 holds: its grounds 1 to 5, what it excludes, its PLC, depth and pilots. Assumes nothing.
use Prim.Native.Nat.{ℕ, suc, ◌+◌, ◌*◌, ◌/◌, ◌%◌, ◌≤◌, ◌<◌}
use mathlib.Core.Path.{◌≡◌, refl, sym, ap, ap₂, ◌∙◌, subst}
use mathlib.Core.Logic.{by_cases}
use mathlib.Core.Bool.{Bool, false, not, ◌||◌}
use mathlib.Core.List.{List, [], ◌∷◌, ◌++◌, map, append-nil}
use native.Mathlib.Omega.{arith}
use native.Mathlib.Decide.{ℕ_discrete}
use lib.Dec.{ltb, eqb}
use lib.ListN.{length}
use borrow.Author.Tests.{le-ltb, lt-leb, eq-eqb}
use Rattle.counting.specs.Search.{when}
use Rattle.counting.proofs.Bools.{or_false}
use Rattle.rules.specs.declared.Device.{Device}
use Rattle.rules.specs.Refusals.{Finding}
use Rattle.std.specs.Prelude.{Ok}
use Rattle.rules.specs.Plan.{Entry, entry, chain, chain_from, only, is_range, is_pilot, plan_of}
use Rattle.rules.specs.Bands.{any, covers, excluded}
use Rattle.rules.specs.Roles.{names}
use Rattle.rules.specs.Grounds.{◌else◌, ground?, bad_length, bad_numbers, chain_grounds, grounds1to5}
use Rattle.rules.proofs.Findings.{both_fine, when_fine}
use Rattle.records.proofs.RecordLaws.{Sized, length_fine}
use Rattle.chains.specs.Last.{last_index}
use Rattle.chains.proofs.LastLaws.{last_inside}
use Rattle.copies.specs.Copy.{copy_with}
use Rattle.copylaws.specs.Entries.{within, range_entry, unlinked}
use Rattle.copylaws.proofs.Records.{copy_length, copy_count, other_record, last_record}
use Rattle.copylaws.proofs.Chains.{CopiedFrom, copied_from}
use Rattle.copylaws.proofs.Ranked.{Also}
use Rattle.copylaws.proofs.Entries.{only_unlinked, only_append, any_unlinked, any_append}

module _ (d : Device) (s : List ℕ) (a b : ℕ) (fine : grounds1to5 d s ≡ Ok tt) where
  two_fine : (ground? 1 (when (bad_length s) 0) ≡ Ok tt) × (chain_grounds d (length s / 8) 0 (chain s) ≡ Ok tt)
  unfolding grounds1to5
  two_fine = both_fine (ground? 1 (when (bad_length s) 0)) (chain_grounds d (length s / 8) 0 (chain s)) fine

  pub sized : Sized s
  sized = length_fine s (when_fine 1 0 (bad_length s) two_fine.0)

  inside : 8 * last_index s + 7 < length s
  inside = last_inside s sized.some

  abbrev new : Entry
  new = range_entry (length s / 8) a b

  whole_chain : CopiedFrom d s a b sized.whole inside (length s / 8) 0 0
  unfolding last_index chain
  whole_chain = copied_from d s a b sized.whole inside (length s / 8) 0 0 0 (omega (arith, sized.some)) (omega arith) two_fine.1 refl

  chain_is : chain (copy_with s a b) ≡ chain_from (copy_with s a b) (suc (length s / 8)) (suc (length s / 8)) 0
  unfolding chain
  chain_is = ap (λ (n : ℕ). chain_from (copy_with s a b) n n 0) (copy_count s a b sized.whole inside)

  -- the copy's chain is the plan's, but for next indices, and then the new record
  pub copy_chain : map unlinked (chain (copy_with s a b)) ≡ map unlinked (chain s) ++ new ∷ []
  unfolding chain
  copy_chain = ap (map unlinked) chain_is ∙ whole_chain.same

  -- grounds 2 to 5 along the copy's chain: only the new range can be refused
  pub chain_findings : chain_grounds d (suc (length s / 8)) 0 (chain (copy_with s a b)) ≡ ground? 4 (when (bad_numbers d new) (length s / 8))
  chain_findings = ap (chain_grounds d (suc (length s / 8)) 0) chain_is ∙ whole_chain.grounds

  -- grounds 1 to 5 of the copy: it is too long, or its range is refused, or none
  pub copy_grounds : grounds1to5 d (copy_with s a b) ≡ (ground? 1 (when (ltb 4096 (length s + 8)) 0) else ground? 4 (when (bad_numbers d new) (length s / 8)))
  unfolding grounds1to5
  copy_grounds =
      ap₂ (λ (t : Bool) (g : Finding). ground? 1 (when t 0) else g) long
      ((λ i. chain_grounds d (copy_count s a b sized.whole inside i) 0 (chain_is i)) ∙ whole_chain.grounds)
    where
      rest : (n : ℕ) → n % 8 ≡ 0 → (ltb (n + 8) 8 || ltb 4096 (n + 8) || not (eqb ((n + 8) % 8) 0)) ≡ ltb 4096 (n + 8)
      rest n e = rw (le-ltb (n + 8) 8 (omega arith), eq-eqb ((n + 8) % 8) 0 (omega arith)) (or_false (ltb 4096 (n + 8)))

      long : bad_length (copy_with s a b) ≡ ltb 4096 (length s + 8)
      long = unfold bad_length in ap (λ (n : ℕ). ltb n 8 || ltb 4096 n || not (eqb (n % 8) 0)) (copy_length s a b sized.whole inside) ∙ rest (length s) sized.whole

  pub copy_ranges : map unlinked (plan_of (copy_with s a b)).ranges ≡ map unlinked (plan_of s).ranges ++ new ∷ []
  unfolding plan_of only
  copy_ranges =
      only_unlinked is_range (λ e. refl) (chain (copy_with s a b)) ∙ ap (only is_range) copy_chain ∙ only_append is_range (map unlinked (chain s)) (new ∷ [])
      ∙ ap (λ (x : List Entry). x ++ new ∷ []) (sym (only_unlinked is_range (λ e. refl) (chain s)))

  pub copy_pilots : map unlinked (plan_of (copy_with s a b)).pilots ≡ map unlinked (plan_of s).pilots
  unfolding plan_of only
  copy_pilots =
      only_unlinked is_pilot (λ e. refl) (chain (copy_with s a b)) ∙ ap (only is_pilot) copy_chain ∙ only_append is_pilot (map unlinked (chain s)) (new ∷ [])
      ∙ append-nil (only is_pilot (map unlinked (chain s))) ∙ sym (only_unlinked is_pilot (λ e. refl) (chain s))

  -- the copy excludes what the plan does, and the range
  pub copy_excluded : (k : ℕ) → excluded (plan_of (copy_with s a b)) k ≡ (excluded (plan_of s) k || within a b k)
  unfolding excluded any
  copy_excluded k =
      sym (any_unlinked (covers k) (λ e. refl) (plan_of (copy_with s a b)).ranges) ∙ ap (any (covers k)) copy_ranges ∙ any_append (covers k) (map unlinked (plan_of s).ranges) (new ∷ [])
      ∙ ap₂ (λ (x y : Bool). x || y) (any_unlinked (covers k) (λ e. refl) (plan_of s).ranges) (or_false (within a b k))

  -- record 0 says the same
  first_same : unlinked (entry (copy_with s a b) 0) ≡ unlinked (entry s 0)
  first_same =
      by_cases (ℕ_discrete 0 (last_index s))
      (λ e. subst (λ (i : ℕ). unlinked (entry (copy_with s a b) i) ≡ unlinked (entry s i)) (sym e) (ap unlinked (last_record s a b sized.whole inside)))
      (λ ne. ap unlinked (other_record s a b sized.whole inside 0 (omega (arith, sized.some)) ne))

  pub copy_plc : (plan_of (copy_with s a b)).plc ≡ (plan_of s).plc
  unfolding plan_of entry
  copy_plc = ap (λ (e : Entry). e.low) first_same

  pub copy_depth : (plan_of (copy_with s a b)).depth ≡ (plan_of s).depth
  unfolding plan_of entry
  copy_depth = ap (λ (e : Entry). e.high) first_same

  -- the copy has the plan's PLC and pilots, and also excludes the range
  pub copy_also : Also (plan_of (copy_with s a b)) (plan_of s) (within a b)
  copy_also = record {
    plc = copy_plc;
    named = λ k. sym (any_unlinked (names k) (λ e. refl) (plan_of (copy_with s a b)).pilots) ∙ ap (any (names k)) copy_pilots ∙ any_unlinked (names k) (λ e. refl) (plan_of s).pilots;
    more = copy_excluded;
  }

  -- where the copy is not too long and the range is one of the device, no ground of 1 to 5 holds
  pub copy_fine : length s + 8 ≤ 4096 → a ≤ b → b < d.subcarriers → grounds1to5 d (copy_with s a b) ≡ Ok tt
  unfolding bad_numbers
  copy_fine room rise top =
      copy_grounds
      ∙ ap₂ (λ (x y : Bool). ground? 1 (when x 0) else ground? 4 (when y (length s / 8))) (le-ltb 4096 (length s + 8) room) in_range
    where
      in_range : bad_numbers d new ≡ false
      in_range = unfold bad_numbers in rw (lt-leb d.subcarriers a (omega arith), lt-leb d.subcarriers b top, le-ltb b a rise) refl
