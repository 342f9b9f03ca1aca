-- The record and the lights of any pilots after all that was heard are those worked out afresh (document 02, Req 10), for any cap. Assumes nothing.
use Prim.Native.Nat.{ℕ, zero, suc, ◌+◌, ◌≤◌, ◌<◌}
use mathlib.Core.Path.{◌≡◌, refl, sym, ap, ap₂, ◌∙◌}
use mathlib.Core.Logic.{by_cases}
use mathlib.Core.Bool.{Bool, false, not, ◌&&◌, ◌||◌}
use Rattle.std.specs.Prelude.{Option}
use mathlib.Core.List.{List, [], ◌∷◌, map}
use native.Mathlib.Decide.{dec_lt}
use native.Mathlib.Omega.{arith}
use lib.Dec.{leb, ltb}
use lib.ListN.{length, get_or, take, replicate, length-map}
use borrow.Author.Tests.{le-ltb, le-leb, lt-leb, eq-eqb}
use Rattle.counting.specs.Search.{pick, is_none}
use Rattle.counting.proofs.Bools.{by_test, or_true}
use Rattle.counting.proofs.Laws.{none_lowest}
use Rattle.counting.proofs.Lists.{is_tabulate, get_or-map_in}
use Rattle.lamprecord.specs.Record.{holds_mark, in_row, every, fresh_record, lit, capped, lamp_record, next_by, next_record, lit_afresh, bad_count, bad_record}
use Rattle.lamprecord.proofs.Counts.{capped_low, capped_le, capped_mono, capped_suc, covers}

-- ---- how many in a row

in-row-le : (ys : List (List ℕ)) (k : ℕ) → in_row ys k ≤ length ys
unfolding in_row
in-row-le [] k = omega arith
in-row-le (y ∷ ys) k = by_test (holds_mark y k) (λ e. rw e (omega (arith, in-row-le ys k))) (λ e. rw e (omega arith))

leb_suc : (a b : ℕ) → leb (suc a) (suc b) ≡ leb a b
leb_suc a b =
    by_cases (dec_lt b a)
    (λ h. lt-leb (suc a) (suc b) (omega arith) ∙ sym (lt-leb a b h))
    (λ h. le-leb (suc a) (suc b) (omega arith) ∙ sym (le-leb a b (omega arith)))

-- each of the last n held the mark, or all: so many in a row did
every_row : (k n : ℕ) (ys : List (List ℕ)) → every (λ y. holds_mark y k) (take n ys) ≡ (leb n (in_row ys k) || leb (length ys) (in_row ys k))
unfolding in_row every
every_row k zero ys = rw (le-leb 0 (in_row ys k) (omega arith)) refl
every_row k (suc n) [] = sym (rw (le-leb 0 0 (omega arith)) (or_true (leb (suc n) 0)))
every_row k (suc n) (y ∷ ys) =
    by_test (holds_mark y k)
    (λ e. rw (e, leb_suc n (in_row ys k), leb_suc (length ys) (in_row ys k)) (every_row k n ys))
    (λ e. rw (e, lt-leb (suc n) 0 (omega arith), lt-leb (suc (length ys)) 0 (omega arith)) refl)

module _ (cap : ℕ) (ks : List ℕ) where
  -- ---- the record

  pub length_record : (ys : List (List ℕ)) → length (lamp_record cap ks ys) ≡ suc (length ks)
  unfolding lamp_record
  length_record ys = ap suc (length-map ks (λ k. capped cap (in_row ys k)))

  first_count : (ys : List (List ℕ)) → get_or (lamp_record cap ks ys) 0 0 ≡ capped cap (length ys)
  unfolding lamp_record
  first_count ys = refl

  pilot_count : (ys : List (List ℕ)) (i : ℕ) → i < length ks → get_or (lamp_record cap ks ys) (suc i) 0 ≡ capped cap (in_row ys (get_or ks i 0))
  unfolding lamp_record
  pilot_count ys i h = get_or-map_in (λ k. capped cap (in_row ys k)) ks i 0 0 h

  -- nothing was heard
  pub fresh_record_lem : fresh_record (length ks) ≡ lamp_record cap ks []
  unfolding fresh_record lamp_record in_row
  fresh_record_lem = ap₂ ◌∷◌ (sym (capped_low cap 0 (omega arith))) (all ks)
    where
      all : (xs : List ℕ) → replicate (length xs) 0 ≡ map (λ k. capped cap 0) xs
      all [] = refl
      all (x ∷ xs) = ap₂ ◌∷◌ (sym (capped_low cap 0 (omega arith))) (all xs)

  -- one symbol more
  pub next_record_lem : (y : List ℕ) (ys : List (List ℕ)) → next_record cap ks y (lamp_record cap ks ys) ≡ lamp_record cap ks (y ∷ ys)
  unfolding next_record next_by lamp_record
  next_record_lem y ys =
      ap₂ ◌∷◌ (ap (λ (c : ℕ). capped cap (c + 1)) (first_count ys) ∙ capped_suc cap (length ys))
      (sym (is_tabulate (map (λ k. capped cap (in_row (y ∷ ys) k)) ks) (length ks) (λ i. pick (holds_mark y (get_or ks i 0)) (capped cap (get_or (lamp_record cap ks ys) (suc i) 0 + 1)) 0) (length-map ks _) at))
    where
      count : (k : ℕ) → capped cap (in_row (y ∷ ys) k) ≡ pick (holds_mark y k) (capped cap (capped cap (in_row ys k) + 1)) 0
      count k = unfold in_row in (by_test (holds_mark y k) (λ e. rw e (sym (capped_suc cap (in_row ys k)))) (λ e. rw e (capped_low cap 0 (omega arith))))

      at : (i : ℕ) → i < length ks → get_or (map (λ k. capped cap (in_row (y ∷ ys) k)) ks) i 0 ≡ pick (holds_mark y (get_or ks i 0)) (capped cap (get_or (lamp_record cap ks ys) (suc i) 0 + 1)) 0
      at i h =
          get_or-map_in (λ k. capped cap (in_row (y ∷ ys) k)) ks i 0 0 h ∙ count (get_or ks i 0)
          ∙ ap (λ (c : ℕ). pick (holds_mark y (get_or ks i 0)) (capped cap (c + 1)) 0) (sym (pilot_count ys i h))

  -- ---- its lights

  pub lights_afresh : 0 < cap → (ys : List (List ℕ)) (i : ℕ) → i < length ks → lit (lamp_record cap ks ys) i ≡ lit_afresh cap ys (get_or ks i 0)
  unfolding lit lit_afresh
  lights_afresh pos ys i h =
      let k : ℕ = get_or ks i 0 in
      let n : ℕ = in_row ys k in
      let counted : lit (lamp_record cap ks ys) i ≡ (ltb 0 (length ys) && (leb cap n || leb (length ys) n)) = rw (first_count ys, pilot_count ys i h) (covers cap pos n (length ys) (in-row-le ys k)) in
      counted ∙ ap (λ (b : Bool). ltb 0 (length ys) && b) (sym (every_row k cap ys))

  -- ---- 28 never refuses it

  good_count : (ys : List (List ℕ)) (i : ℕ) → i < length (lamp_record cap ks ys) → bad_count cap (lamp_record cap ks ys) i ≡ false
  unfolding bad_count
  good_count ys zero h =
      rw (first_count ys, le-ltb cap (capped cap (length ys)) (capped_le cap (length ys))) (le-ltb (capped cap (length ys)) (capped cap (length ys)) (omega arith))
  good_count ys (suc i) h =
      let l : i < length ks = omega (arith, h, length_record ys) in
      let n : ℕ = in_row ys (get_or ks i 0) in
      rw (first_count ys, pilot_count ys i l, le-ltb cap (capped cap n) (capped_le cap n))
      (le-ltb (capped cap (length ys)) (capped cap n) (capped_mono cap n (length ys) (in-row-le ys (get_or ks i 0))))

  pub good_record : (ys : List (List ℕ)) → bad_record cap (length ks) (lamp_record cap ks ys) ≡ false
  unfolding bad_record
  good_record ys =
      rw (eq-eqb (length (lamp_record cap ks ys)) (suc (length ks)) (length_record ys))
      (ap (λ (o : Option ℕ). not (is_none o)) (none_lowest (bad_count cap (lamp_record cap ks ys)) (length (lamp_record cap ks ys)) (good_count ys)))
