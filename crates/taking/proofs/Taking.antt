-- The data taken out of an input symbol: the number at each place of the buffer, one by one and by the block. Assumes nothing.
use Prim.Native.Nat.{ℕ, ◌+◌, ◌≤◌, ◌<◌}
use mathlib.Core.Path.{◌≡◌, sym, ap, ◌∙◌}
use mathlib.Core.Bool.{true}
use mathlib.Core.List.{List}
use native.Mathlib.Omega.{arith}
use lib.ListN.{length, get_or, set, take}
use lib.Seq.{sets, length-sets}
use Rattle.counting.specs.Search.{count, select, tabulate, is_zero}
use Rattle.counting.proofs.Laws.{count_lt}
use Rattle.counting.proofs.Select.{select-count}
use Rattle.fill.specs.Flags.{all_data, taken_data}
use Rattle.fill.proofs.Blocks.{Stored, stored_next, stored_block, stored_all}
use Rattle.fill.proofs.Filling.{zero_yes, all_data_at, all_data_count, all_data_room}

-- the data cell that has c others below it
abbrev pub data_at : List ℕ → List ℕ → ℕ → ℕ
data_at flag x c = get_or x (select (is_zero flag) (length x) c) 0

-- the first d data cells of x stand in the buffer y that was b
abbrev pub Taken : List ℕ → List ℕ → List ℕ → ℕ → List ℕ → Type 0
Taken flag x b d y = Stored b 0 (data_at flag x) (count (is_zero flag) (length x)) d y

module _ (flag x b : List ℕ) (d : ℕ) (y : List ℕ) where
  pub taken_from : y ≡ sets b 0 (take d (taken_data flag x)) → Taken flag x b d y
  unfolding taken_data
  taken_from e = record { long = ap length e ∙ length-sets b 0 (take d (taken_data flag x)); list = e }

  pub taken_list : Taken flag x b d y → y ≡ sets b 0 (take d (taken_data flag x))
  unfolding taken_data
  taken_list s = s.list

  pub taken_all : Taken flag x b d y → d ≡ count (is_zero flag) (length x) → y ≡ sets b 0 (taken_data flag x)
  unfolding taken_data
  taken_all s e = stored_all b 0 (data_at flag x) (count (is_zero flag) (length x)) d y s (omega arith)

-- a data cell with d others below it
data_at_lem : (flag x : List ℕ) (p d : ℕ) → d ≡ count (is_zero flag) p → p < length x → is_zero flag p ≡ true → get_or x p 0 ≡ data_at flag x d
data_at_lem flag x p d e h z = ap (λ (q : ℕ). get_or x q 0) (sym (select-count (is_zero flag) (length x) p h z) ∙ ap (select (is_zero flag) (length x)) (sym e))

-- it goes to the next place
pub taken_next : (flag x b : List ℕ) (p d : ℕ) (y : List ℕ) → Taken flag x b d y → d ≡ count (is_zero flag) p → p < length x → get_or flag p 0 ≡ 0
    → (d' : ℕ) (z : List ℕ) → z ≡ set y d (get_or x p 0) → d' ≡ d + 1 → Taken flag x b d' z
taken_next flag x b p d y s e h free d' z ez ed =
    let yes = zero_yes flag p free in
    rw ed (stored_next b 0 (data_at flag x) _ d y s d (get_or x p 0) z (omega (arith, e, count_lt (is_zero flag) p (length x) h yes)) (omega arith) (data_at_lem flag x p d e h yes) ez)

-- a block of k data cells goes to the next places
pub taken_block : (flag x b : List ℕ) (p k d : ℕ) (y : List ℕ) → Taken flag x b d y → d ≡ count (is_zero flag) p → p + k ≤ length x → all_data flag p k ≡ true
    → (d' : ℕ) (z : List ℕ) → z ≡ sets y d (tabulate (λ i. get_or x (p + i) 0) k) → d' ≡ d + k → Taken flag x b d' z
taken_block flag x b p k d y s e h all d' z ez ed =
    rw ed
    (stored_block b 0 (data_at flag x) _ d y s (λ i. get_or x (p + i) 0) k d z (all_data_room flag p k d e all (length x) _ h (omega arith)) (omega arith)
    (λ i l. data_at_lem flag x (p + i) (d + i) (omega (arith, e, all_data_count flag p k all i (omega arith))) (omega arith) (all_data_at flag p k all i l))
    ez)
