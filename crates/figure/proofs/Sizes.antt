-- How many cells the delay lines have: in all J * M * (M - 1) / 2. Assumes nothing.
use Prim.Native.Nat.{ℕ, zero, suc, ◌+◌, ◌-◌, ◌*◌, ◌/◌, ◌≤◌, ◌<◌}
use mathlib.Core.Path.{◌≡◌, refl, sym, ap, ◌∙◌}
use mathlib.Core.Logic.{by_cases}
use native.Mathlib.Nat.{mod-lt, div-add-mod', mul-le-mul_right, mul_comm, mul_assoc, mul-suc, mul-div_left}
use native.Mathlib.Decide.{dec_lt}
use native.Mathlib.Omega.{arith}
use Rattle.counting.specs.Search.{sum}
use Rattle.counting.proofs.Sums.{sum_le, sum_const}
use Rattle.counting.proofs.Orders.{sum_mul}
use Rattle.rules.specs.Fits.{capacity}
use Rattle.rules.specs.Frame.{Frame, cells}
use Rattle.rules.specs.Places.{places_before}
use Rattle.places.proofs.Kept.{sum_grow, Within, within}
use Rattle.places.proofs.Sizes as sizes
use Rattle.figure.specs.Figure.{ceiling, line_begins}
use Rattle.figure.specs.Steps.{literal_places}

-- ---- J

-- J turns of the commutator take in all n cells
pub enough : (n m : ℕ) → 0 < m → n ≤ ceiling n m * m
unfolding ceiling
enough n m pos = omega (arith, div-add-mod' (n + (m - 1)) m, mod-lt (n + (m - 1)) pos)

-- and fewer than m dummies
pub few_dummies : (n m : ℕ) → 0 < m → ceiling n m * m < n + m
unfolding ceiling
few_dummies n m pos = omega (arith, div-add-mod' (n + (m - 1)) m, mod-lt (n + (m - 1)) pos)

pub ceiling_low : (n m k : ℕ) → 0 < m → n ≤ k → ceiling n m ≤ k
ceiling_low n m k pos h =
    by_cases (dec_lt k (ceiling n m))
    (λ c. absurd (omega (arith, few_dummies n m pos, mul-le-mul_right m c, mul-le-mul_right k pos, mul_comm k m)))
    (λ c. omega arith)

-- ---- where the lines begin

pub begins_suc : (J r : ℕ) → line_begins J (suc r) ≡ line_begins J r + r * J
unfolding line_begins sum
begins_suc J r = refl

-- line r ends before line k begins
pub begins_grow : (J r k : ℕ) → r < k → line_begins J r + r * J ≤ line_begins J k
unfolding line_begins
begins_grow J r k h = sum_grow (λ q. q * J) r k h

-- two places in the lines that are one are one place of one line
pub same_place : (J r i r' i' : ℕ) → i < r * J → i' < r' * J → line_begins J r + i ≡ line_begins J r' + i' → (r ≡ r') × (i ≡ i')
same_place J r i r' i' h h' e =
    by_cases (dec_lt r r')
    (λ c. absurd (omega (arith, begins_grow J r r' c)))
    (λ c.
    by_cases (dec_lt r' r)
    (λ d. absurd (omega (arith, begins_grow J r' r d)))
    (λ d. let z : r ≡ r' = omega arith in (z, omega (arith, ap (line_begins J) z))))

-- and each place in the lines is in one
pub in_line : (J m k : ℕ) → k < line_begins J m → Within (λ r. r * J) m k
unfolding line_begins places_before
in_line J m k h = within (λ r. r * J) m k h

pub begins_at : (J m k : ℕ) (w : Within (λ r. r * J) m k) → line_begins J w.cell + w.nth ≡ k
unfolding line_begins places_before
begins_at J m k w = sym w.is

begins_are : (J m : ℕ) → line_begins J m ≡ sum (λ i. i) m * J
unfolding line_begins
begins_are J m = sum_mul (λ i. i) J m

pub begins_by_triangle : (J m : ℕ) → line_begins J m ≡ J * sum (λ i. i) m
begins_by_triangle J m = begins_are J m ∙ mul_comm (sum (λ i. i) m) J

-- ---- the lengths of the lines add up

less_one : (m : ℕ) → m * m - m ≡ m * (m - 1)
less_one zero = refl
less_one (suc m) =
    let k : suc m - 1 ≡ m = omega arith in
    rw k (omega (arith, mul-suc (suc m) m))

twice_begins : (J m : ℕ) → line_begins J m * 2 ≡ J * m * (m - 1)
twice_begins J m =
    let e : line_begins J m * 2 ≡ J * (m * m - m) = omega (arith, begins_by_triangle J m, ap (λ (t : ℕ). J * t) (sizes.twice_sum m)) in
    e ∙ ap (λ (t : ℕ). J * t) (less_one m) ∙ sym (mul_assoc J m (m - 1))

-- to J * M * (M - 1) / 2
pub lengths_add_up : (J m : ℕ) → line_begins J m ≡ J * m * (m - 1) / 2
lengths_add_up J m = sym (ap (λ (t : ℕ). t / 2) (sym (twice_begins J m)) ∙ mul-div_left (line_begins J m) (let h : 0 < 2 = omega arith in h))

-- ---- bounds

-- 0 + 1 + .. + (m - 1)
pub triangle_low : (m : ℕ) → m ≤ capacity → sum (λ i. i) m ≤ capacity * capacity
triangle_low m h = omega (arith, sum_le (λ i. i) (λ i. capacity) m (λ i l. omega arith), sum_const capacity m, mul-le-mul_right capacity h)

-- ---- the literal store of a frame

-- its places, by the depth and the number of cells
pub literal_places_are : (F : Frame) (m n : ℕ) → m ≡ F.depth → n ≡ cells F → line_begins (ceiling n m) m ≡ literal_places F
unfolding literal_places
literal_places_are F m n em en = λ i. line_begins (ceiling (en i) (em i)) (em i)
