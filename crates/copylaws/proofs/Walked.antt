-- The walk along the chain of the copy goes on at its new record, with the tables that the walk along the plan's chain has left: what is
-- before that record is the plan's. Assumes nothing.
use Prim.Native.Nat.{ℕ, suc, ◌/◌, ◌<◌}
use mathlib.Core.Path.{◌≡◌, refl, sym, ap, ap₂, ◌∙◌, subst}
use mathlib.Core.Bool.{Bool, ◌||◌}
use mathlib.Core.List.{List, [], ◌∷◌, map}
use native.Mathlib.Omega.{arith}
use lib.ListN.{length, take}
use Rattle.counting.proofs.Bools.{or_false}
use Rattle.counting.proofs.Lists.{append-nil}
use Rattle.rules.specs.declared.Device.{Device}
use Rattle.std.specs.Prelude.{Ok}
use Rattle.rules.specs.Plan.{Entry, leads, chain, chain_from, only, plan_of}
use Rattle.rules.specs.Bands.{any, excluded}
use Rattle.rules.specs.Grounds.{grounds1to5}
use Rattle.chains.specs.Last.{last_of, last_index}
use Rattle.chains.proofs.Steps.{chain_ends, leads_low}
use Rattle.chains.proofs.LastLaws.{last_inside, last_append, last_map}
use Rattle.plan.specs.Noted.{Noted}
use Rattle.plan.specs.Walk.{Left, Kept}
use Rattle.copies.specs.Copy.{copy_with}
use Rattle.copylaws.specs.Entries.{within, range_entry, unlinked}
use Rattle.copylaws.proofs.Records.{copy_count, new_record}
use Rattle.copylaws.proofs.Chains.{new_grounds}
use Rattle.copylaws.proofs.Copy.{sized, chain_findings, copy_chain, copy_pilots, copy_excluded}

-- numbers of entries that do not ask for the next index
of_unlinked : (f : Entry → ℕ) → ((e : Entry) → f (unlinked e) ≡ f e) → (es : List Entry) → map f (map unlinked es) ≡ map f es
of_unlinked f h [] = refl
of_unlinked f h (e ∷ es) = ap₂ (λ (x : ℕ) (xs : List ℕ). x ∷ xs) (h e) (of_unlinked f h es)

module _ (d : Device) (s : List ℕ) (a b : ℕ) (fine : grounds1to5 d s ≡ Ok tt) where
  abbrev copy : List ℕ
  copy = copy_with s a b

  abbrev records : ℕ
  records = length s / 8

  abbrev new : Entry
  new = range_entry records a b

  some : 0 < records
  some = omega (arith, (sized d s a b fine).some)

  -- the new record is the last of the copy's chain
  pub copy_last : last_index copy ≡ records
  unfolding last_index
  copy_last =
      sym (last_map unlinked (λ e. refl) 0 (chain copy)) ∙ ap (last_of 0) (copy_chain d s a b fine) ∙ last_append 0 (map unlinked (chain s)) new

  -- what is left of the chain there
  rest : chain_from copy (suc records) 1 records ≡ new ∷ []
  rest =
      let is = new_record s a b (sized d s a b fine).whole (last_inside s (sized d s a b fine).some) in
      chain_ends copy (suc records) 0 records (ap (λ (e : Entry). leads (suc records) records e.next) is ∙ leads_low (suc records) records 0 (omega arith))
      ∙ ap (λ (e : Entry). e ∷ []) is

  -- the pilots of the copy are the plan's
  pilot_numbers : (f : Entry → ℕ) → ((e : Entry) → f (unlinked e) ≡ f e) → map f (plan_of copy).pilots ≡ map f (plan_of s).pilots
  pilot_numbers f h = sym (of_unlinked f h (plan_of copy).pilots) ∙ ap (map f) (copy_pilots d s a b fine) ∙ of_unlinked f h (plan_of s).pilots

  module _ {np : ℕ} {reach hot pil rec : List ℕ} (w : Noted d s np reach hot pil rec) where
    before_new : Left d copy (suc records) np reach hot pil rec (new ∷ [])
    unfolding plan_of excluded only any
    before_new = record {
      finding = chain_findings d s a b fine ∙ sym (new_grounds d records np a b some);
      table = w.table;
      flags = w.flags;
      covered = λ k l. copy_excluded d s a b fine k ∙ ap₂ (λ (x y : Bool). x || y) (sym (w.covered k l)) (sym (or_false (within a b k)));
      nums = pilot_numbers (λ e. e.low) (λ e. refl) ∙ w.nums ∙ sym (append-nil (take np pil));
      recs = pilot_numbers (λ e. e.index) (λ e. refl) ∙ w.recs ∙ sym (append-nil (take np rec));
      few = w.few;
      lp = w.lp;
      lr = w.lr;
    }

    kept : Kept d copy (suc records) records np reach hot pil rec
    unfolding last_of
    kept = record {
      here = omega arith;
      steps = 1;
      enough = omega arith;
      left = subst (Left d copy (suc records) np reach hot pil rec) (sym rest) before_new;
      last = ap (last_of records) rest ∙ sym copy_last;
    }

    pub walk_on : Kept d copy (length copy / 8) records np reach hot pil rec
    walk_on =
        subst (λ (n : ℕ). Kept d copy n records np reach hot pil rec) (sym (copy_count s a b (sized d s a b fine).whole (last_inside s (sized d s a b fine).some))) kept
