-- Cells row after row in the order of reversed bits, for any number of bits: how many cells were read before a place. Assumes nothing.
use Prim.Native.Nat.{ℕ, suc, ◌+◌, ◌%◌, ◌/◌, ◌^◌, ◌≤◌, ◌<◌}
use mathlib.Core.Path.{◌≡◌, refl, sym, ap, ◌∙◌}
use mathlib.Core.Logic.{by_cases}
use mathlib.Core.Bool.{true, ◌&&◌}
use native.Mathlib.Nat.{mod-lt, mod-eq_of_lt, div-eq_of_lt, div-add-mod', mul-le-mul_right}
use native.Mathlib.Numerals.{add-one}
use native.Mathlib.Decide.{dec_lt, le_ind}
use native.Mathlib.Omega.{arith}
use lib.Dec.{ltb, eqb}
use lib.Pow.{pow_pos}
use borrow.Author.Tests.{lt-ltb, eqb-true}
use Rattle.counting.specs.Search.{sum, count, rank}
use Rattle.counting.proofs.Bools.{by_test}
use Rattle.counting.proofs.Laws.{count_ext}
use Rattle.counting.proofs.Sums.{sum_const}
use Rattle.rules.specs.Frame.{reversed, house_key}
use Rattle.frame.specs.Rows.{row_length, rows_before, house_rank}
use Rattle.frame.proofs.House.{reversed_lt, reversed_reversed, columns, rows, house_rank_lem}

-- the first p of a row that is no cell ends the row
pub row_end : (R n p : ℕ) → 0 < R → n ≤ p → p < n + R → row_length R n (p % R) ≡ p / R
unfolding row_length
row_end R n p pos lo hi =
    count_ext (λ q. eqb (q % R) (p % R)) (λ q. eqb (q % R) (p % R) && ltb (q / R) (p / R)) n (λ q l. same q l)
    ∙ columns R (p % R) n (p / R) (mod-lt p pos) (omega (arith, div-add-mod' p R))
  where
    same : (q : ℕ) → q < n → eqb (q % R) (p % R) ≡ (eqb (q % R) (p % R) && ltb (q / R) (p / R))
    same q l =
        by_test (eqb (q % R) (p % R))
        (λ e.
        rw e
        (by_cases (dec_lt (q / R) (p / R))
        (λ c. sym (lt-ltb (q / R) (p / R) c))
        (λ c.
        let d : p / R ≤ q / R = omega arith in
        absurd (omega (arith, div-add-mod' p R, div-add-mod' q R, eqb-true (q % R) (p % R) e, mul-le-mul_right R d)))))
        (λ e. rw e refl)

module _ (b n : ℕ) where
  pub rows_none : rows_before b n 0 ≡ 0
  unfolding rows_before sum
  rows_none = refl

  pub rows_all : rows_before b n (2 ^ b) ≡ n
  unfolding count
  rows_all =
      sym (rows b n (2 ^ b) (omega arith))
      ∙ count_ext (λ q. ltb (reversed b (q % 2 ^ b)) (2 ^ b)) (λ q. true) n (λ q l. lt-ltb (reversed b (q % 2 ^ b)) (2 ^ b) (reversed_lt b (q % 2 ^ b)))
      ∙ omega (arith, sum_const 1 n)

  -- the rank of a cell of the i-th row read: the rows before it, and its column
  pub rows_here : (c i p : ℕ) → n ≤ c → i < 2 ^ b → p < n → p % 2 ^ b ≡ reversed b i → rank (house_key b c) n p ≡ rows_before b n i + p / 2 ^ b
  unfolding house_rank
  rows_here c i p hc hi hp e =
      house_rank_lem b c n p hc hp ∙ ap (λ (x : ℕ). rows_before b n x + p / 2 ^ b) (ap (reversed b) e ∙ reversed_reversed b i hi)

  -- past the row's last cell come those of the next row
  pub rows_next : (i p : ℕ) → n ≤ p → p < n + 2 ^ b → p % 2 ^ b ≡ reversed b i → rows_before b n i + p / 2 ^ b ≡ rows_before b n (i + 1)
  unfolding rows_before sum
  rows_next i p lo hi e =
      rw add-one
      (ap (λ (x : ℕ). sum (λ k. row_length (2 ^ b) n (reversed b k)) i + x) (sym (row_end (2 ^ b) n p (pow_pos b) lo hi) ∙ ap (row_length (2 ^ b) n) e))

  -- rows without a cell add none
  pub rows_skip : (i k : ℕ) → i ≤ k → ((j : ℕ) → i ≤ j → j < k → n ≤ reversed b j) → rows_before b n k ≡ rows_before b n i
  rows_skip i k l h =
      le_ind (λ (k : ℕ). ((j : ℕ) → i ≤ j → j < k → n ≤ reversed b j) → rows_before b n k ≡ rows_before b n i) (λ g. refl)
      (λ k w ih g. one k (g k w (omega arith)) ∙ ih (λ j lo hi. g j lo (omega arith))) k l h
    where
      one : (k : ℕ) → n ≤ reversed b k → rows_before b n (suc k) ≡ rows_before b n k
      one k g =
          let l : reversed b k < 2 ^ b = reversed_lt b k in
          let e : rows_before b n k + reversed b k / 2 ^ b ≡ rows_before b n (k + 1) = rows_next k (reversed b k) g (omega arith) (mod-eq_of_lt l) in
          ap (rows_before b n) (sym (add-one k)) ∙ sym e ∙ omega (arith, div-eq_of_lt l)
