-- Every phase has a data cell, where some stretch of subcarriers has few without a rank. Assumes nothing.
use Prim.Native.Nat.{ℕ, ◌+◌, ◌*◌, ◌%◌, ◌≤◌, ◌<◌}
use mathlib.Core.Path.{◌≡◌, refl, sym, ap, ◌∙◌}
use mathlib.Core.Bool.{Bool, true, false, not}
use native.Mathlib.Nat.{mod-lt}
use native.Mathlib.Omega.{arith}
use Rattle.counting.specs.Search.{bit, sum, count}
use Rattle.counting.proofs.Laws.{count_lt, bit_false}
use Rattle.counting.proofs.Sums.{sum_cong, sum_swap, sum_add, sum_const, some_zero, sum_none→}
use Rattle.rules.specs.Frame.{Frame, cells, spot, holder, delay, held, is_data, data_count}
use Rattle.frame.proofs.Cells.{Sound, holder_below, spot_holder}

not_not : (b : Bool) → not b ≡ false → b ≡ true
not_not true e = refl
not_not false e = sym e

module _ (F : Frame) (ok : Sound F) where
  -- a ranked subcarrier that is scattered at none of the phases at which an input symbol of phase j is sent
  one_data : (j k : ℕ) → k < F.width → F.ranked k ≡ true → ((d : ℕ) → d < F.depth → F.pattern ((j + d) % F.phases) k ≡ false) → 1 ≤ data_count F j
  unfolding data_count is_data held
  one_data j k h r free =
      let p : ℕ = holder F k in
      let e : F.pattern ((j + delay F p) % F.phases) (spot F p) ≡ false =
      ap (F.pattern ((j + delay F p) % F.phases)) (spot_holder F ok.key_inj k h r) ∙ free (delay F p) (mod-lt p ok.depth_pos) in
      omega (arith, count_lt (is_data F j) p (cells F) (holder_below F ok.key_inj k h r) (ap not e))

  -- The stretch of n subcarriers from a on, in which each phase scatters q. Those without a rank and depth times q others leave one.
  pub some_data : (a n q : ℕ) → a + n ≤ F.width → ((j : ℕ) → j < F.phases → count (λ i. F.pattern j (a + i)) n ≡ q)
      → count (λ i. not (F.ranked (a + i))) n + F.depth * q < n → (j : ℕ) → j < F.phases → 1 ≤ data_count F j
  unfolding count
  some_data a n q fits each few j hj =
      let u : ℕ → ℕ = λ i. bit (not (F.ranked (a + i))) in
      let w : ℕ → ℕ = λ i. sum (λ d. bit (F.pattern ((j + d) % F.phases) (a + i))) F.depth in
      let total : sum w n ≡ F.depth * q =
      sum_swap (λ i d. bit (F.pattern ((j + d) % F.phases) (a + i))) n F.depth
      ∙ sum_cong (λ d. sum (λ i. bit (F.pattern ((j + d) % F.phases) (a + i))) n) (λ d. q) F.depth
      (λ d l. each ((j + d) % F.phases) (mod-lt (j + d) (omega arith)))
      ∙ sum_const q F.depth in
      let r = some_zero (λ i. u i + w i) n (omega (arith, sum_add u w n, total, few)) in
      one_data j (a + r.0) (omega (arith, r.1))
      (not_not (F.ranked (a + r.0)) (bit_false (not (F.ranked (a + r.0))) (omega (arith, r.2))))
      (λ d l. bit_false _ (sum_none→ (λ d. bit (F.pattern ((j + d) % F.phases) (a + r.0))) F.depth (omega (arith, r.2)) d l))
