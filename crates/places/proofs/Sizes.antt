-- How many places the stores of both ends have, in a closed form. Assumes nothing.
use Prim.Native.Nat.{ℕ, zero, suc, ◌+◌, ◌-◌, ◌*◌, ◌/◌, ◌%◌, ◌≤◌, ◌<◌}
use mathlib.Core.Path.{◌≡◌, refl, sym, ap, ◌∙◌}
use native.Mathlib.Nat.{mul-le-mul_right, mod-lt, mod-eq_of_lt, mul-add-mod_self_right, mul-div_right, div-add-mod'}
use native.Mathlib.Omega.{arith}
use Rattle.counting.specs.Search.{sum}
use Rattle.counting.proofs.Sums.{sum_cong, sum_split, sum_blocks, sum_add, sum_const}
use Rattle.rules.specs.Fits.{capacity}
use Rattle.rules.specs.Frame.{Frame, cells}
use Rattle.rules.specs.Places.{emitter_delay, receiver_delay, places_before}
use Rattle.rules.specs.Store.{emitter_places, receiver_places}

-- ---- 0 + 1 + .. + (n - 1)

pub square : (n : ℕ) → n ≤ n * n
square zero = omega arith
square (suc n) = omega arith

pub twice_sum : (n : ℕ) → 2 * sum (λ i. i) n ≡ n * n - n
unfolding sum
twice_sum zero = refl
twice_sum (suc n) = omega (arith, twice_sum n, square n)

pub triangle : (n : ℕ) → (n * n - n) / 2 ≡ sum (λ i. i) n
triangle n = ap (λ (x : ℕ). x / 2) (sym (twice_sum n)) ∙ mul-div_right (sum (λ i. i) n) (let h : 0 < 2 = omega arith in h)

-- ---- where the places of a cell begin

-- those of an emitter's cell q * m + r: after q blocks of m cells and r more, for r up to m
pub emitter_start : (m q r : ℕ) → r ≤ m → places_before (emitter_delay m) (q * m + r) ≡ q * sum (λ i. i) m + sum (λ i. i) r
unfolding places_before
emitter_start m q r h =
    let rest : sum (λ i. (q * m + i) % m) r ≡ sum (λ i. i) r = sum_cong _ _ r (λ i l. mul-add-mod_self_right q m i ∙ mod-eq_of_lt (let k : i < m = omega arith in k)) in
    let all : sum (λ p. p % m) (q * m) ≡ q * sum (λ i. i) m =
    sum_blocks (λ p. p % m) m (sum (λ i. i) m) q (λ b l. sum_cong _ _ m (λ i k. mul-add-mod_self_right b m i ∙ mod-eq_of_lt k)) in
    omega (arith, sum_split (λ p. p % m) (q * m) r)

pub emitter_size : (m n : ℕ) → 0 < m → places_before (emitter_delay m) n ≡ n / m * sum (λ i. i) m + sum (λ i. i) (n % m)
emitter_size m n pos =
    ap (places_before (emitter_delay m)) (sym (div-add-mod' n m)) ∙ emitter_start m (n / m) (n % m) (omega (arith, mod-lt n pos))

-- both ends together have m - 1 places for each cell
pub both_sizes : (m n : ℕ) → 0 < m → places_before (receiver_delay m) n + places_before (emitter_delay m) n ≡ n * (m - 1)
unfolding places_before
both_sizes m n pos =
    sym (sum_add (receiver_delay m) (emitter_delay m) n)
    ∙ sum_cong (λ p. receiver_delay m p + emitter_delay m p) (λ p. m - 1) n (λ p l. omega (arith, mod-lt p pos))
    ∙ sum_const (m - 1) n

-- of so many cells at most, each delayed by fewer symbols than that
pub emitter_fits : (m n : ℕ) → 0 < m → m ≤ capacity → n ≤ capacity → places_before (emitter_delay m) n ≤ capacity * capacity
emitter_fits m n pos hm hn = omega (arith, both_sizes m n pos, mul-le-mul_right (m - 1) hn)

-- ---- the stores of a frame

-- an emitter's places, by the depth and the number of cells
pub emitter_places_are : (F : Frame) (m n : ℕ) → m ≡ F.depth → n ≡ cells F → places_before (emitter_delay m) n ≡ emitter_places F
unfolding emitter_places
emitter_places_are F m n em en = λ i. places_before (emitter_delay (em i)) (en i)

-- a receiver's
pub receiver_places_are : (F : Frame) (m n : ℕ) → m ≡ F.depth → n ≡ cells F → places_before (receiver_delay m) n ≡ receiver_places F
unfolding receiver_places
receiver_places_are F m n em en = λ i. places_before (receiver_delay (em i)) (en i)
