-- The cells of an input symbol and what its flags say of them, one by one and by the block. Assumes nothing.
use Prim.Native.Nat.{ℕ, zero, suc, ◌+◌, ◌≤◌, ◌<◌}
use mathlib.Core.Path.{◌≡◌, refl, sym, ap, ◌∙◌}
use mathlib.Core.Logic.{by_cases}
use mathlib.Core.Bool.{Bool, true, false}
use mathlib.Core.List.{List}
use native.Mathlib.Nat.{add-zero}
use native.Mathlib.Numerals.{add-one}
use native.Mathlib.Decide.{dec_lt, le_ind}
use native.Mathlib.Omega.{arith}
use lib.Bits.{bit_or}
use lib.Dec.{eqb}
use lib.ListN.{get_or}
use borrow.Author.Tests.{eq-eqb, ne_eqb}
use Rattle.counting.specs.Search.{bit, sum, count, is_zero}
use Rattle.counting.proofs.Bools.{and_left, and_right, or_zero}
use Rattle.counting.proofs.Laws.{count_lt, count_step}
use Rattle.rules.specs.Frame.{placeholder, filler}
use Rattle.fill.specs.Flags.{all_data, data_cell, filler_cell}

-- ---- one flag
pub zero_yes : (l : List ℕ) (p : ℕ) → get_or l p 0 ≡ 0 → is_zero l p ≡ true
unfolding is_zero
zero_yes l p e = eq-eqb (get_or l p 0) 0 e

pub zero_no : (l : List ℕ) (p : ℕ) → (get_or l p 0 ≡ 0 → ⊥) → is_zero l p ≡ false
unfolding is_zero
zero_no l p e = ne_eqb (get_or l p 0) 0 e

-- ---- data cells counted
pub none_below : (flag : List ℕ) → 0 ≡ count (is_zero flag) 0
unfolding count sum
none_below flag = refl

pub count_up : (t : ℕ → Bool) (a n : ℕ) → a ≤ n → count t a ≤ count t n
unfolding count sum
count_up t a n h = le_ind (λ (m : ℕ). count t a ≤ count t m) (omega arith) (λ m _ k. omega arith) n h

count_next : (t : ℕ → Bool) (p i : ℕ) → count t (p + (i + 1)) ≡ count t (p + i) + bit (t (p + i))
count_next t p i = let z : p + (i + 1) ≡ p + i + 1 = omega arith in ap (count t) z ∙ count_step t (p + i)

-- ---- cell p + i, with d data cells below it
module _ (flag : List ℕ) (p i d : ℕ) (e : d ≡ count (is_zero flag) (p + i)) where
  -- a data cell is one more
  pub data_next : get_or flag (p + i) 0 ≡ 0 → (d' : ℕ) → d' ≡ d + 1 → d' ≡ count (is_zero flag) (p + (i + 1))
  data_next z d' ed = omega (arith, ed, e, count_next (is_zero flag) p i, ap bit (zero_yes flag (p + i) z))

  -- a placeholder is not
  pub held_next : (get_or flag (p + i) 0 ≡ 0 → ⊥) → (d' : ℕ) → d' ≡ d → d' ≡ count (is_zero flag) (p + (i + 1))
  held_next z d' ed = omega (arith, ed, e, count_next (is_zero flag) p i, ap bit (zero_no flag (p + i) z))

  -- there is room for a data cell in a list for those below cell p + k
  pub data_room : get_or flag (p + i) 0 ≡ 0 → (k m : ℕ) → i < k → count (is_zero flag) (p + k) ≤ m → d < m
  data_room z k m h r = omega (arith, e, count_lt (is_zero flag) (p + i) (p + k) (omega arith) (zero_yes flag (p + i) z))

  -- a data cell takes the next number
  pub data_cell_lem : (ds : List ℕ) → get_or flag (p + i) 0 ≡ 0 → get_or ds d 0 ≡ data_cell flag ds (p + i)
  unfolding data_cell
  data_cell_lem ds z = rw (zero_yes flag (p + i) z, e) refl

pub held_cell : (flag ds : List ℕ) (p : ℕ) → (get_or flag p 0 ≡ 0 → ⊥) → placeholder ≡ data_cell flag ds p
unfolding data_cell
held_cell flag ds p z = rw (zero_no flag p z) refl

-- ---- a cell of a flush
pub filler_free : (flag : List ℕ) (p : ℕ) → get_or flag p 0 ≡ 0 → filler ≡ filler_cell flag p
unfolding filler_cell
filler_free flag p z = rw (zero_yes flag p z) refl

pub filler_held : (flag : List ℕ) (p : ℕ) → (get_or flag p 0 ≡ 0 → ⊥) → placeholder ≡ filler_cell flag p
unfolding filler_cell
filler_held flag p z = rw (zero_no flag p z) refl

-- ---- a block without a placeholder
pub all_data_start : (flag : List ℕ) (p : ℕ) → eqb 0 0 ≡ all_data flag p 0
unfolding all_data
all_data_start flag p = refl

pub all_data_next : (flag : List ℕ) (p k s x : ℕ) → eqb s 0 ≡ all_data flag p k → x ≡ get_or flag (p + k) 0 → eqb (bit_or s x) 0 ≡ all_data flag p (k + 1)
unfolding all_data is_zero
all_data_next flag p k s x e ex = rw (add-one, or_zero s x, e, ex) refl

-- its cells are data cells
pub all_data_at : (flag : List ℕ) (p k : ℕ) → all_data flag p k ≡ true → (i : ℕ) → i < k → is_zero flag (p + i) ≡ true
unfolding all_data
all_data_at flag p zero e i h = absurd (omega arith)
all_data_at flag p (suc k) e i h =
    by_cases (dec_lt i k)
    (λ c. all_data_at flag p k (and_left (all_data flag p k) (is_zero flag (p + k)) e) i c)
    (λ c. let z : i ≡ k = omega arith in rw z (and_right (all_data flag p k) (is_zero flag (p + k)) e))

-- and there are as many of them below cell p + i as below cell p, and i more
pub all_data_count : (flag : List ℕ) (p k : ℕ) → all_data flag p k ≡ true → (i : ℕ) → i ≤ k → count (is_zero flag) (p + i) ≡ count (is_zero flag) p + i
all_data_count flag p k e zero h = ap (count (is_zero flag)) (add-zero p) ∙ sym (add-zero (count (is_zero flag) p))
all_data_count flag p k e (suc i) h =
    let z : p + suc i ≡ p + i + 1 = omega arith in
    rw z (omega (arith, count_step (is_zero flag) (p + i), ap bit (all_data_at flag p k e i (omega arith)), all_data_count flag p k e i (omega arith)))

-- they take the next numbers
pub all_data_cell : (flag ds : List ℕ) (p k d : ℕ) → d ≡ count (is_zero flag) p → all_data flag p k ≡ true → (i : ℕ) → i < k → get_or ds (d + i) 0 ≡ data_cell flag ds (p + i)
unfolding data_cell
all_data_cell flag ds p k d ed e i h = rw (all_data_at flag p k e i h, all_data_count flag p k e i (omega arith), ed) refl

-- there is room for them in a list for those below cell n
pub all_data_room : (flag : List ℕ) (p k d : ℕ) → d ≡ count (is_zero flag) p → all_data flag p k ≡ true → (n m : ℕ) → p + k ≤ n → count (is_zero flag) n ≤ m → d + k ≤ m
all_data_room flag p k d ed e n m h r = omega (arith, ed, all_data_count flag p k e k (omega arith), count_up (is_zero flag) (p + k) n h)
