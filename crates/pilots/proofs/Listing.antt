-- The list of the continuous pilots as the marks are read: nothing at first, then one mark more, or a block without a pilot. Assumes nothing.
use Prim.Native.Nat.{ℕ, zero, suc, ◌+◌, ◌≤◌, ◌<◌}
use mathlib.Core.Path.{◌≡◌, refl, sym, ap, ap₂, ◌∙◌}
use mathlib.Core.Logic.{by_cases}
use mathlib.Core.Bool.{Bool, true, false}
use mathlib.Core.List.{List, [], ◌∷◌, ◌++◌, append-nil}
use native.Mathlib.Nat.{zero-add, add-zero}
use native.Mathlib.Numerals.{add-one}
use native.Mathlib.Decide.{dec_lt, ℕ_discrete}
use native.Mathlib.Omega.{arith}
use lib.Dec.{eqb}
use lib.ListN.{length, get_or, set, replicate, length-set, length-replicate, length-append, get_or-append, get_or-eq_default}
use lib.Seq.{get_or-set_same, get_or-set_other, get_or-append_seam}
use borrow.Author.Tests.{eq-eqb, ne_eqb}
use Rattle.counting.specs.Search.{bit, count, keep, those}
use Rattle.counting.proofs.Laws.{bit_false, count_lt, those_suc, length_those}
use Rattle.counting.proofs.Searches.{count_up}
use Rattle.counting.proofs.Sums.{sum_none→}
use Rattle.counting.proofs.Lists.{zeros, length_tabulate, get_d_tabulate, is_tabulate}
use Rattle.rules.specs.declared.Device.{Device}
use Rattle.rules.specs.declared.Refusal.{Refusal}
use Rattle.std.specs.Prelude.{Ok, Err}
use Rattle.rules.specs.Plan.{Plan, plan_of}
use Rattle.rules.specs.Roles.{continuous_mark, mark}
use Rattle.rules.specs.Grounds.{grounds1to15}
use Rattle.marks.specs.Marked.{Marked}
use Rattle.pilots.specs.Pilots.{pilots_most, is_continuous, continuous_pilots, padded, listing, no_listing, pilots_answer}
use Rattle.pilots.specs.Marked.{is_marked, marked_below, Listed}

-- ---- a list in n places

pub padded_none : (n : ℕ) → replicate n 0 ≡ padded n []
unfolding padded
padded_none n = is_tabulate (replicate n 0) n (λ i. get_or [] i 0) (length-replicate n 0) (λ k h. zeros n k)

pub length_padded : (n : ℕ) (l : List ℕ) → length (padded n l) ≡ n
unfolding padded
length_padded n l = length_tabulate (λ i. get_or l i 0) n

pub get_or_padded : (n : ℕ) (l : List ℕ) (i : ℕ) → i < n → get_or (padded n l) i 0 ≡ get_or l i 0
unfolding padded
get_or_padded n l i h = get_d_tabulate (λ i. get_or l i 0) n 0 i h

pub padded_more : (n : ℕ) (l : List ℕ) (x : ℕ) → length l < n → set (padded n l) (length l) x ≡ padded n (l ++ x ∷ [])
unfolding padded
padded_more n l x h =
    is_tabulate (set (padded n l) (length l) x) n (λ i. get_or (l ++ x ∷ []) i 0) (length-set (padded n l) (length l) x ∙ length_padded n l) place
  where
    other : (k : ℕ) → k < n → (k ≡ length l → ⊥) → get_or (set (padded n l) (length l) x) k 0 ≡ get_or l k 0
    other k b e = get_or-set_other (padded n l) (length l) k x 0 e ∙ get_or_padded n l k b

    place : (k : ℕ) → k < n → get_or (set (padded n l) (length l) x) k 0 ≡ get_or (l ++ x ∷ []) k 0
    place k b =
        by_cases (dec_lt k (length l))
        (λ c. other k b (λ e. absurd (omega arith)) ∙ sym (get_or-append l (x ∷ []) 0 k c))
        (λ c. by_cases (ℕ_discrete k (length l))
        (λ e. rw e (get_or-set_same (padded n l) (length l) x 0 (omega (arith, length_padded n l)) ∙ sym (get_or-append_seam l x [] 0)))
        (λ e.
        other k b e ∙ get_or-eq_default l 0 (omega arith)
        ∙ sym (get_or-eq_default (l ++ x ∷ []) 0 (omega (arith, length-append l (x ∷ []))))))

-- ---- those that pass

module _ (t : ℕ → Bool) where
  those_next : (k : ℕ) (b : Bool) → t k ≡ b → those t 0 (k + 1) ≡ those t 0 k ++ keep b k []
  those_next k b e =
      ap (those t 0) (add-one k) ∙ those_suc t 0 k
      ∙ (λ i. those t 0 k ++ keep (t (zero-add k i)) (zero-add k i) []) ∙ ap (λ (x : Bool). those t 0 k ++ keep x k []) e

  those_passed : (k : ℕ) → t k ≡ false → those t 0 (k + 1) ≡ those t 0 k
  those_passed k e = those_next k false e ∙ append-nil (those t 0 k)

  -- none of m from k on passes
  those_over : (k m : ℕ) → ((i : ℕ) → i < m → t (k + i) ≡ false) → those t 0 (k + m) ≡ those t 0 k
  those_over k zero none = ap (those t 0) (add-zero k)
  those_over k (suc m) none =
      let e : k + suc m ≡ k + m + 1 = omega arith in
      ap (those t 0) e ∙ those_passed (k + m) (none m (omega arith)) ∙ those_over k m (λ i h. none i (omega arith))

-- tests that agree below n
those_ext : (t u : ℕ → Bool) (n : ℕ) → ((k : ℕ) → k < n → t k ≡ u k) → those t 0 n ≡ those u 0 n
unfolding those
those_ext t u zero h = refl
those_ext t u (suc n) h =
    those_suc t 0 n
    ∙ ap₂ (λ (xs : List ℕ) (b : Bool). xs ++ keep b (0 + n) []) (those_ext t u n (λ k l. h k (omega arith))) (h (0 + n) (omega (arith, zero-add n)))
    ∙ sym (those_suc u 0 n)

-- ---- the list

module _ (marks : List ℕ) where
  pub listed_none : Listed marks 0 0 (replicate pilots_most 0)
  unfolding those
  listed_none = record { number = refl; listed = padded_none pilots_most }

  is_pilot_lem : (k : ℕ) → get_or marks k 0 ≡ continuous_mark → is_marked marks k ≡ true
  unfolding is_marked
  is_pilot_lem k e = eq-eqb (get_or marks k 0) continuous_mark e

  pub fewer_below : (k m : ℕ) → k ≤ m → length (marked_below marks k) ≤ length (marked_below marks m)
  fewer_below k m h = omega (arith, length_those (is_marked marks) k, length_those (is_marked marks) m, count_up (is_marked marks) k m h)

  -- a pilot below m is one of those below m
  pub room_for : (k m n : ℕ) → k < m → get_or marks k 0 ≡ continuous_mark → n ≡ length (marked_below marks k) → n < length (marked_below marks m)
  room_for k m n h e is = omega (arith, is, length_those (is_marked marks) k, length_those (is_marked marks) m, count_lt (is_marked marks) k m h (is_pilot_lem k e))

  pub listed_other : (k n : ℕ) (list : List ℕ) → (get_or marks k 0 ≡ continuous_mark → ⊥) → Listed marks k n list → Listed marks (k + 1) n list
  unfolding is_marked
  listed_other k n list h r =
      let e = those_passed (is_marked marks) k (ne_eqb (get_or marks k 0) continuous_mark h) in
      record { number = r.number ∙ ap length (sym e); listed = r.listed ∙ ap (padded pilots_most) (sym e) }

  pub listed_pilot : (k n : ℕ) (list : List ℕ) → get_or marks k 0 ≡ continuous_mark → n < pilots_most → Listed marks k n list → Listed marks (k + 1) (n + 1) (set list n k)
  listed_pilot k n list h b r =
      let below : List ℕ = marked_below marks k in
      let e : marked_below marks (k + 1) ≡ below ++ k ∷ [] = those_next (is_marked marks) k true (is_pilot_lem k h) in
      record {
        number = omega (arith, r.number, ap length e, length-append below (k ∷ []));
        listed =
            (λ i. set (r.listed i) (r.number i) k) ∙ padded_more pilots_most below k (omega (arith, r.number)) ∙ ap (padded pilots_most) (sym e);
      }

  -- a block without a pilot
  pub listed_over : (k n : ℕ) (list : List ℕ) → count (λ i. is_marked marks (k + i)) 16 ≡ 0 → Listed marks k n list → Listed marks (k + 16) n list
  unfolding count
  listed_over k n list h r =
      let e = those_over (is_marked marks) k 16 (λ i l. bit_false (is_marked marks (k + i)) (sum_none→ (λ i. bit (is_marked marks (k + i))) 16 h i l)) in
      record { number = r.number ∙ ap length (sym e); listed = r.listed ∙ ap (padded pilots_most) (sym e) }

-- ---- the answer

-- the marks of a plan's subcarriers list its continuous pilots
pub marked_pilots : (d : Device) (p : Plan) (marks : List ℕ) → Marked d p marks → marked_below marks d.subcarriers ≡ continuous_pilots d p
unfolding continuous_pilots is_continuous is_marked
marked_pilots d p marks m =
    those_ext (is_marked marks) (λ k. eqb (mark d p k) continuous_mark) d.subcarriers (λ k h. ap (λ (x : ℕ). eqb x continuous_mark) (m.cell k h))

module _ (d : Device) (s : List ℕ) where
  pub answer_fine : grounds1to15 d s ≡ Ok tt → listing (continuous_pilots d (plan_of s)) ≡ pilots_answer d s
  unfolding pilots_answer
  answer_fine e = rw (e, pilots_answer) refl

  pub answer_ground : (r : Refusal) → grounds1to15 d s ≡ Err r → no_listing r ≡ pilots_answer d s
  unfolding pilots_answer
  answer_ground r e = rw (e, pilots_answer) refl
