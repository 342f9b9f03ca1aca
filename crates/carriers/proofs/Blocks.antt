-- The list of ranked subcarriers as the marks are read: nothing at first, then one mark more, or a block of them. Assumes nothing.
use Prim.Native.Nat.{ℕ, ◌+◌, ◌≤◌, ◌<◌}
use mathlib.Core.Path.{◌≡◌, refl, sym, ap, ◌∙◌}
use mathlib.Core.Logic.{by_cases}
use mathlib.Core.List.{List}
use native.Mathlib.Decide.{dec_lt}
use native.Mathlib.Omega.{arith}
use lib.ListN.{length, get_or, set}
use lib.Seq.{get_or-set_same, get_or-set_other}
use Rattle.counting.specs.Search.{bit, sum, count, select, is_zero}
use Rattle.counting.proofs.Bools.{by_test}
use Rattle.counting.proofs.Laws.{count_add, count_le, count_step}
use Rattle.counting.proofs.Select.{select-count}
use Rattle.counting.proofs.Sums.{all_pass}
use Rattle.carriers.specs.Listed.{Listed}

module _ (mark : List ℕ) where
  pub listed_none : (car : List ℕ) → Listed mark 0 0 car
  unfolding count sum
  listed_none car = record { number = refl; listed = λ w i h l. absurd (omega arith) }

  -- no more are listed than were read
  pub listed_few : (k n : ℕ) (car : List ℕ) → Listed mark k n car → n ≤ k
  listed_few k n car r = omega (arith, r.number, count_le (is_zero mark) k)

  -- the list grows where k is ranked; where not, what was stored past its end does not matter
  pub listed_next : (k n : ℕ) (car : List ℕ) → n < length car → Listed mark k n car → Listed mark (k + 1) (n + bit (is_zero mark k)) (set car n k)
  listed_next k n car hn r = record { number = omega (arith, r.number, count_step (is_zero mark) k); listed = list }
    where
      list : (w i : ℕ) → k + 1 ≤ w → i < n + bit (is_zero mark k) → get_or (set car n k) i 0 ≡ select (is_zero mark) w i
      list w i h hi =
          by_cases (dec_lt i n)
          (λ c. get_or-set_other car n i k 0 (λ z. absurd (omega arith)) ∙ r.listed w i (omega arith) c)
          (λ c.
          by_test (is_zero mark k)
          (λ y.
          let b : bit (is_zero mark k) ≡ 1 = ap bit y in
          let z : i ≡ n = omega arith in
          rw z (get_or-set_same car n k 0 hn ∙ sym (ap (select (is_zero mark) w) r.number ∙ select-count (is_zero mark) w k (omega arith) y)))
          (λ y. let b : bit (is_zero mark k) ≡ 0 = ap bit y in absurd (omega arith)))

  -- the next of a block that is ranked whole
  pub listed_all : (k n i : ℕ) (car : List ℕ) → i < 8 → count (λ j. is_zero mark (k + j)) 8 ≡ 8 → n + i < length car
      → Listed mark (k + i) (n + i) car → Listed mark (k + (i + 1)) (n + (i + 1)) (set car (n + i) (k + i))
  listed_all k n i car h e hn r =
      let one : bit (is_zero mark (k + i)) ≡ 1 = ap bit (all_pass (λ j. is_zero mark (k + j)) 8 e i h) in
      let more = listed_next (k + i) (n + i) car hn r in
      let ek : k + i + 1 ≡ k + (i + 1) = omega arith in
      let en : n + i + bit (is_zero mark (k + i)) ≡ n + (i + 1) = omega arith in
      rw (ek, en) at more

  -- a block with no ranked one
  pub listed_over : (k n : ℕ) (car : List ℕ) → count (λ j. is_zero mark (k + j)) 8 ≡ 0 → Listed mark k n car → Listed mark (k + 8) n car
  listed_over k n car e r = record { number = omega (arith, r.number, count_add (is_zero mark) k 8); listed = λ w i h l. r.listed w i (omega arith) l }
