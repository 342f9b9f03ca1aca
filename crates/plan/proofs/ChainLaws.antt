-- The loop along the chain: what it keeps holds at the start, after each record, and at a ground. Assumes nothing.
use mathlib.Core.Path.{◌≡◌, refl, sym, ap, ◌∙◌, subst}
use mathlib.Core.Bool.{Bool, true, false, ◌&&◌, ◌||◌, or_assoc}
use mathlib.Core.List.{List, [], ◌∷◌, ◌++◌, map, append_assoc}
use Prim.Native.Nat.{ℕ, zero, suc, ◌+◌, ◌/◌, ◌<◌, ◌≤◌}
use native.Mathlib.Numerals.{add-one}
use native.Mathlib.Omega.{arith}
use lib.Dec.{ltb, leb, leb-suc-suc}
use lib.ListN.{length, take}
use Rattle.counting.specs.Search.{keep, bit}
use Rattle.rules.specs.declared.Device.{Device}
use Rattle.rules.specs.Refusals.{Finding, refused_by}
use Rattle.std.specs.Prelude.{Ok, Some}
use Rattle.rules.specs.Plan.{Entry, entry, leads, chain, chain_from, only, is_range, is_pilot}
use Rattle.rules.specs.Bands.{any, covers}
use Rattle.rules.specs.Grounds.{◌else◌, bad_length, record_grounds, chain_grounds}
use Rattle.ranges.specs.Reach.{hit, Table, Flags}
use Rattle.records.specs.Read.{found_at}
use Rattle.records.proofs.RecordLaws.{fine_few, fine_next, length_fine}
use Rattle.chains.specs.Last.{last_of, last_index}
use Rattle.chains.proofs.Steps.{chain_ends, chain_on, leads_on, leads_low}
use Rattle.chains.proofs.LastLaws.{last_any}
use Rattle.plan.specs.Walk.{Left, Kept, Turned, PutIf, Taken}

-- an entry knows its index
pub index_is : {e : Entry} (s : List ℕ) (i : ℕ) → e ≡ entry s i → e.index ≡ i
unfolding entry
index_is s i eq = ap (λ (x : Entry). x.index) eq

-- where the loop stands, a record is left
at_record : {P : Type 0} {d : Device} {s : List ℕ} {r i np : ℕ} {reach hot pil rec : List ℕ} → Kept d s r i np reach hot pil rec
    → ((n : ℕ) → r ≤ suc n + i → Left d s r np reach hot pil rec (chain_from s r (suc n) i) → last_of i (chain_from s r (suc n) i) ≡ last_index s → P) → P
at_record {P} {d} {s} {r} {i} {np} {reach} {hot} {pil} {rec} k h = go k.steps k.enough k.left k.last
  where
    go : (n : ℕ) → r ≤ n + i → Left d s r np reach hot pil rec (chain_from s r n i) → last_of i (chain_from s r n i) ≡ last_index s → P
    go zero l w q = absurd (omega (arith, k.here))
    go (suc n) l w q = h n l w q

-- one entry more
module _ (e : Entry) (es : List Entry) where
  any_range : (k : ℕ) → any (covers k) (only is_range (e ∷ es)) ≡ ((is_range e && (leb e.low k && ltb k (e.high + 1))) || any (covers k) (only is_range es))
  unfolding only any
  any_range k = go (is_range e) ∙ ap (λ (b : Bool). (is_range e && (leb e.low k && b)) || any (covers k) (only is_range es)) (sym (ap (ltb k) (add-one e.high) ∙ leb-suc-suc k e.high))
    where
      go : (t : Bool) → any (covers k) (elim t [ true ↦ e ∷ only is_range es | false ↦ only is_range es ]) ≡ ((t && covers k e) || any (covers k) (only is_range es))
      go true = refl
      go false = refl

  map_pilot : (f : Entry → ℕ) → map f (only is_pilot (e ∷ es)) ≡ keep (is_pilot e) (f e) [] ++ map f (only is_pilot es)
  unfolding only
  map_pilot f = go (is_pilot e)
    where
      go : (t : Bool) → map f (elim t [ true ↦ e ∷ only is_pilot es | false ↦ only is_pilot es ]) ≡ keep t (f e) [] ++ map f (only is_pilot es)
      go true = refl
      go false = refl

  put_next : (f : Entry → ℕ) (np m : ℕ) (all old new : List ℕ) → m ≡ np + bit (is_pilot e) → all ≡ take np old ++ map f (only is_pilot (e ∷ es)) → PutIf (is_pilot e) np (f e) old new
      → all ≡ take m new ++ map f (only is_pilot es)
  put_next f np m all old new is w u =
      w ∙ ap (λ (x : List ℕ). take np old ++ x) (map_pilot f) ∙ sym (append_assoc (take np old) _ _)
      ∙ ap (λ (x : List ℕ). x ++ map f (only is_pilot es)) (sym u.front ∙ ap (λ (x : ℕ). take x new) (sym is))

-- an entry e, in which no ground holds, has been put into the tables
module _ {d : Device} {s : List ℕ} {r np m : ℕ} {reach hot pil rec reach' hot' pil' rec' : List ℕ} {e : Entry}
    (f : record_grounds d r np e ≡ Ok tt) (t : Taken d.subcarriers e np m reach pil rec reach' hot' pil' rec') where
  left_take : (es : List Entry) → Left d s r np reach hot pil rec (e ∷ es) → Left d s r m reach' hot' pil' rec' es
  unfolding chain_grounds
  left_take es w = record {
    finding = w.finding ∙ ap (λ (g : Finding). g else chain_grounds d r (np + bit (is_pilot e)) es) f ∙ ap (λ (x : ℕ). chain_grounds d r x es) (sym t.more);
    table = t.noted.table;
    flags = t.noted.flags;
    covered = λ k l.
        w.covered k l ∙ ap (λ (b : Bool). hit reach k || b) (any_range e es k) ∙ sym (or_assoc (hit reach k) _ _)
        ∙ ap (λ (b : Bool). b || any (covers k) (only is_range es)) (sym (t.noted.hits k l));
    nums = put_next e es (λ (x : Entry). x.low) np m _ pil pil' t.more w.nums t.num;
    recs = put_next e es (λ (x : Entry). x.index) np m _ rec rec' t.more w.recs t.place;
    few = omega (arith, fine_few d r np e f w.few, t.more);
    lp = t.num.size;
    lr = t.place.size;
  }

  -- e is record i, at which the loop stands
  module _ {i : ℕ} (eq : e ≡ entry s i) (k : Kept d s r i np reach hot pil rec) where
    leads_from : (b : Bool) → leads r i e.next ≡ b → leads r i (entry s i).next ≡ b
    leads_from b g = sym (ap (λ (x : Entry). leads r i x.next) eq) ∙ g

    ends : (n : ℕ) → e.next ≡ 0 → chain_from s r (suc n) i ≡ e ∷ []
    ends n z = chain_ends s r n i (leads_from false (leads_low r i e.next (omega arith))) ∙ sym (ap (λ (x : Entry). x ∷ []) eq)

    goes_on : (n : ℕ) → i < e.next → e.next < r → chain_from s r (suc n) i ≡ e ∷ chain_from s r n e.next
    goes_on n a b =
        chain_on s r n i (leads_from true (leads_on r i e.next a b)) ∙ sym (ap (λ (x : Entry). x ∷ chain_from s r n x.next) eq)

    last : e.next ≡ 0 → Left d s r m reach' hot' pil' rec' []
    last z = at_record k (λ n l w q. left_take [] (subst (Left d s r np reach hot pil rec) (ends n z) w))

    here : e.next ≡ 0 → i ≡ last_index s
    unfolding last_of
    here z = at_record k (λ n l w q. sym (index_is s i eq) ∙ sym (ap (last_of i) (ends n z)) ∙ q)

    on : i < e.next → e.next < r → Kept d s r e.next m reach' hot' pil' rec'
    unfolding last_of
    on a b = at_record k (λ n l w q. record {
      here = b;
      steps = n;
      enough = omega arith;
      left = left_take (chain_from s r n e.next) (subst (Left d s r np reach hot pil rec) (goes_on n a b) w);
      last = last_any s r n e.next e.next e.index b (omega arith) ∙ sym (ap (last_of i) (goes_on n a b)) ∙ q;
    })

    pub turned : Turned d s r i m e.next reach' hot' pil' rec'
    turned = record {
      last = last;
      here = here;
      rise = λ ne. rise (fine_next d r np e f ne).0;
      on = λ ne. let h = fine_next d r np e f ne in on (rise h.0) h.1;
    }
      where
        rise : e.index < e.next → i < e.next
        rise h = omega (arith, index_is s i eq)

-- a record in which a ground holds
module _ {d : Device} {s : List ℕ} {r i np g place : ℕ} {reach hot pil rec : List ℕ} {e : Entry} (eq : e ≡ entry s i) (k : Kept d s r i np reach hot pil rec) where
  pub stopped : record_grounds d r np e ≡ refused_by g place → chain_grounds d r 0 (chain s) ≡ refused_by g place
  unfolding chain_grounds chain_from
  stopped f = at_record k (λ n l w q.
      w.finding
      ∙ ap (λ (x : Finding). x else chain_grounds d r (np + bit (is_pilot (entry s i))) (elim (leads r i (entry s i).next) [ true ↦ chain_from s r n (entry s i).next | false ↦ [] ]))
      (sym (ap (record_grounds d r np) eq) ∙ f))

pub found_some : (g : ℕ) {i place : ℕ} → i ≡ place → found_at (Some g) i ≡ refused_by g place
found_some g eq = ap (refused_by g) eq

-- the walk begins at record 0, with empty tables
pub kept_start : {d : Device} {s reach hot pil rec : List ℕ} → Table reach d.subcarriers → Flags reach hot → ((k : ℕ) → hit reach k ≡ false) → length pil ≡ 128 → length rec ≡ 128
    → bad_length s ≡ false → Kept d s (length s / 8) 0 0 reach hot pil rec
unfolding chain last_index
kept_start {d} {s} {reach} t f z lp lr good = record {
  here = omega (arith, (length_fine s good).some);
  steps = length s / 8;
  enough = omega arith;
  left = record {
    finding = refl;
    table = t;
    flags = f;
    covered = λ k w. sym (ap (λ (b : Bool). b || any (covers k) (only is_range (chain s))) (z k));
    nums = refl;
    recs = refl;
    few = omega arith;
    lp = lp;
    lr = lr;
  };
  last = refl;
}
