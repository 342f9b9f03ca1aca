-- Places that take other cells, a line rotated by J places, and line after line. Assumes nothing.
use Prim.Native.Nat.{ℕ, suc, ◌+◌, ◌-◌, ◌*◌, ◌≤◌, ◌<◌}
use mathlib.Core.Path.{◌≡◌, refl, sym, ap, ◌∙◌}
use mathlib.Core.Logic.{by_cases}
use mathlib.Core.List.{List}
use native.Mathlib.Nat.{mul-le-mul_right, one-mul}
use native.Mathlib.Decide.{dec_lt, ℕ_discrete}
use native.Mathlib.Omega.{arith}
use lib.ListN.{length, get_or}
use borrow.Author.Tests.{lt-ltb, le-ltb}
use Rattle.counting.specs.Search.{sum}
use Rattle.figure.specs.Figure.{line_begins}
use Rattle.figure.proofs.Sizes.{begins_suc, begins_grow}
use Rattle.rotatedlines.specs.Rotated.{rotated_from, Replaced, LineRotated, LinesRotated}

pub from_ahead : (len J i : ℕ) → i + J < len → rotated_from len J i ≡ i + J
unfolding rotated_from
from_ahead len J i h = rw (lt-ltb (i + J) len h) refl

pub from_first : (len J i : ℕ) → len ≤ i + J → rotated_from len J i ≡ i + J - len
unfolding rotated_from
from_first len J i h = rw (le-ltb (i + J) len h) refl

-- ---- one line

-- the first J cells are copied to a buffer, which is then f; the others go J places down; the cells of the buffer are copied to the last J places
pub line_rotated : (at len J : ℕ) (s f₀ f t t' : List ℕ) → J ≤ len → Replaced 0 J (λ i. get_or s (at + i) 0) f₀ f → Replaced at (len - J) (λ i. get_or s (at + J + i) 0) s t
    → Replaced (at + (len - J)) J (λ i. get_or f (0 + i) 0) t t' → LineRotated at len J s t'
line_rotated at len J s f₀ f t t' h kept down last = record {
  places = last.places ∙ down.places;
  rotated = λ i l.
      by_cases (dec_lt (i + J) len)
      (λ c.
      let e : at + J + i ≡ at + rotated_from len J i = omega (arith, from_ahead len J i c) in
      last.before (at + i) (omega arith) ∙ down.put i (omega arith) ∙ ap (λ (k : ℕ). get_or s k 0) e)
      (λ c.
      let c' : len ≤ i + J = omega arith in
      let k : ℕ = i + J - len in
      let z : at + i ≡ at + (len - J) + k = omega arith in
      ap (λ (q : ℕ). get_or t' q 0) z ∙ last.put k (omega arith) ∙ kept.put k (omega arith)
      ∙ ap (λ (q : ℕ). get_or s (at + q) 0) (sym (from_first len J i c')));
  before = λ k l. last.before k (omega arith) ∙ down.before k l;
  past = λ k l. last.past k (omega arith) ∙ down.past k (omega arith);
}

-- ---- line after line

-- lines 0 and 1 rotated are as they were
lines_same : (J k : ℕ) (s : List ℕ) → k ≤ 2 → LinesRotated J k s s
lines_same J k s h = record {
  places = refl;
  rotated = λ r i hr hi.
      by_cases (ℕ_discrete r 1)
      (λ z.
      let size : r * J ≡ J = ap (λ (x : ℕ). x * J) z ∙ one-mul J in
      ap (λ (x : ℕ). get_or s (line_begins J r + x) 0) (sym (from_first (r * J) J i (omega arith) ∙ omega arith)))
      (λ z. let none : r ≡ 0 = omega arith in absurd (omega (arith, ap (λ (x : ℕ). x * J) none)));
  past = λ k h. refl;
}

-- one line more
lines_next : (J r : ℕ) (s t t' : List ℕ) → LinesRotated J r s t → 0 < r → LineRotated (line_begins J r) (r * J) J t t' → LinesRotated J (suc r) s t'
lines_next J r s t t' go pos one = record {
  places = one.places ∙ go.places;
  rotated = λ q i hq hi.
      by_cases (dec_lt q r)
      (λ c. one.before (line_begins J q + i) (omega (arith, begins_grow J q r c)) ∙ go.rotated q i c hi)
      (λ c.
      let z : q ≡ r = omega arith in
      let h : i < r * J = rw z at hi in
      rw z (one.rotated i h ∙ go.past (line_begins J r + rotated_from (r * J) J i) (omega arith)));
  past = λ k h. one.past k (omega (arith, begins_suc J r)) ∙ go.past k (omega (arith, begins_suc J r));
}

-- the lines before line r are rotated; line r, of `len` cells, begins at `at`
pub record Rotates (J m : ℕ) (s t : List ℕ) (r at len : ℕ) : Type 0 where
  pub from : 1 ≤ r
  pub place : at ≡ line_begins J r
  pub long : len ≡ r * J
  pub rotated : LinesRotated J r s t
  pub few : m < r → (m ≤ 1) × (t ≡ s)

module _ (J m : ℕ) (s : List ℕ) where
  pub rotates_first : 0 < m → Rotates J m s s 2 J (J + J)
  unfolding line_begins sum
  rotates_first pos = record {
    from = omega arith;
    place = omega arith;
    long = omega arith;
    rotated = lines_same J 2 s (omega arith);
    few = λ h. (omega arith, refl);
  }

  module _ (t : List ℕ) (r at len : ℕ) (go : Rotates J m s t r at len) where
    -- line r has J cells or more and lies within the store
    pub rotates_fits : r < m → line_begins J m ≤ length s → (J ≤ len) × (at + len ≤ length t)
    rotates_fits hr fits = (
      omega (arith, go.long, mul-le-mul_right J go.from),
      omega (arith, go.place, go.long, go.rotated.places, begins_grow J r m hr),
    )

    pub rotates_next : r < m → (t' : List ℕ) → LineRotated at len J t t' → Rotates J m s t' (r + 1) (at + len) (len + J)
    rotates_next hr t' one =
        let next : r + 1 ≡ suc r = omega arith in
        let here : LineRotated (line_begins J r) (r * J) J t t' = rw go.long at (rw go.place at one) in
        record {
          from = omega arith;
          place = rw next (omega (arith, go.place, go.long, begins_suc J r));
          long = omega (arith, go.long);
          rotated = rw next (lines_next J r s t t' go.rotated go.from here);
          few = λ h. absurd (omega arith);
        }

    pub rotates_all : m ≤ r → LinesRotated J m s t
    rotates_all h =
        by_cases (dec_lt m r)
        (λ c. rw (go.few c).1 (lines_same J m s (omega (arith, (go.few c).0))))
        (λ c. let z : m ≡ r = omega arith in rw z go.rotated)
