-- Laws of load profiles: what ground 25 leaves, and the limits of loads. Assumes nothing.
use Prim.Native.Nat.{ℕ, zero, suc, ◌^◌, ◌≤◌, ◌<◌}
use mathlib.Core.Path.{◌≡◌, refl, sym}
use mathlib.Core.Bool.{Bool, true, not}
use mathlib.Core.List.{List}
use mathlib.Core.Logic.{by_cases}
use native.Mathlib.Decide.{dec_lt}
use native.Mathlib.Omega.{arith}
use lib.Dec.{leb, eqb}
use lib.ListN.{length, get_or, get_or-eq_default, length-replicate, get_or-replicate, replicate}
use lib.Pow.{pow_pos, pow_mono}
use borrow.Author.Tests.{lt-leb, eq-eqb, ne_eqb, eqb-true, not-false}
use Rattle.counting.specs.Search.{when, lowest}
use Rattle.counting.proofs.Bools.{conflict, and_false}
use Rattle.counting.proofs.Laws.{lowest_none, none_lowest}
use Rattle.rules.specs.Refusals.{refused_by}
use Rattle.std.specs.Prelude.{Ok, Option, None}
use Rattle.rules.specs.Grounds.{ground?}
use Rattle.rules.specs.Frame.{top_data}
use Rattle.rules.specs.Loads.{profile_load, ground25, point_load, load_limit}
use Rattle.rules.proofs.Findings.{both_fine, when_fine, no_place}

-- the load of subcarrier k is not listed
abbrev pub is_unlisted : List ℕ → ℕ → Bool
is_unlisted w k = not (profile_load (get_or w k 0))

-- a listed load is at most 14
pub load_small : (l : ℕ) → profile_load l ≡ true → l ≤ 14
unfolding profile_load
load_small l e =
    by_cases (dec_lt 14 l)
    (λ h. absurd (conflict (profile_load l) e (rw (ne_eqb l 0 (λ z. omega arith), ne_eqb l 4 (λ z. omega arith), lt-leb l 14 h) (and_false (leb 6 l)))))
    (λ h. omega arith)

-- a profile that ground 25 does not refuse
pub record Loaded (n : ℕ) (w : List ℕ) : Type 0 where
  pub long : length w ≡ n
  pub listed : (k : ℕ) → k < n → profile_load (get_or w k 0) ≡ true
  pub small : (k : ℕ) → get_or w k 0 ≤ 14

pub loaded : (n : ℕ) (w : List ℕ) → ground25 n w ≡ Ok tt → Loaded n w
unfolding ground25
loaded n w e =
    let f = both_fine (ground? 25 (when (not (eqb (length w) n)) 0)) (ground? 25 (lowest (is_unlisted w) n)) e in
    let len : length w ≡ n = eqb-true (length w) n (not-false (eqb (length w) n) (when_fine 25 0 (not (eqb (length w) n)) f.0)) in
    let all : (k : ℕ) → k < n → profile_load (get_or w k 0) ≡ true =
    λ k h. not-false (profile_load (get_or w k 0)) (lowest_none (is_unlisted w) n (no_place 25 (lowest (is_unlisted w) n) f.1) k h) in
    record {
      long = len;
      listed = all;
      small = λ k.
          by_cases (dec_lt k n)
          (λ h. load_small (get_or w k 0) (all k h))
          (λ h. let z : get_or w k 0 ≡ 0 = get_or-eq_default w 0 {n = k} (omega arith) in omega arith);
    }

-- ---- ground 25 by its parts

pub ground25_long : (n : ℕ) (w : List ℕ) → (length w ≡ n → ⊥) → ground25 n w ≡ refused_by 25 0
unfolding ground25
ground25_long n w h = rw (ne_eqb (length w) n h) refl

pub ground25_place : (n : ℕ) (w : List ℕ) (o : Option ℕ) → length w ≡ n → o ≡ lowest (is_unlisted w) (length w) → ground25 n w ≡ ground? 25 o
unfolding ground25
ground25_place n w o e p = rw (eq-eqb (length w) n e, ← e, p) refl

-- ---- limits

pub point_load_lem : (l : ℕ) → l ≤ 14 → point_load l ≤ 14
unfolding point_load
point_load_lem zero h = omega arith
point_load_lem (suc l) h = h

pub point_more : (l : ℕ) → l ≤ point_load l
unfolding point_load
point_more zero = omega arith
point_more (suc l) = omega arith

-- what is below 2 to its load is within its limit
pub below_limit : (l x : ℕ) → x < 2 ^ l → x ≤ load_limit l
unfolding load_limit
below_limit l x h = let m : 2 ^ l ≤ 2 ^ point_load l = pow_mono (point_more l) in omega (arith, m)

-- with load 14 data is what it was before there were loads, at most 16383; with any other it is less
pub limit_14 : load_limit 14 ≡ top_data
unfolding load_limit point_load
limit_14 = refl

pub limit_top : (l : ℕ) → l ≤ 14 → load_limit l ≤ top_data
unfolding load_limit
limit_top l h = let m : 2 ^ point_load l ≤ 2 ^ 14 = pow_mono (point_load_lem l h) in omega (arith, m)

-- a number within the limit is below 2 to the load with which the modulator is given it
pub within_point : (l x : ℕ) → x ≤ load_limit l → x < 2 ^ point_load l
unfolding load_limit
within_point l x h = omega (arith, pow_pos (point_load l))

-- ---- load 14 everywhere

abbrev pub fourteens : ℕ → List ℕ
fourteens n = replicate n 14

pub fourteens_long : (n : ℕ) → length (fourteens n) ≡ n
fourteens_long n = length-replicate {A = ℕ} n 14

pub fourteens_at : (n k : ℕ) → k < n → get_or (fourteens n) k 0 ≡ 14
fourteens_at n k h = get_or-replicate {A = ℕ} n k 14 0 h

pub fourteens_fine : (n : ℕ) → ground25 n (fourteens n) ≡ Ok tt
unfolding profile_load
fourteens_fine n =
    ground25_place n (fourteens n) None (fourteens_long n)
    (sym (none_lowest (is_unlisted (fourteens n)) (length (fourteens n)) (λ k h. rw (fourteens_at n k (omega (arith, fourteens_long n))) refl)))
