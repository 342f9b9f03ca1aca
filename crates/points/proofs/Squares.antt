-- The squares of a load's points add up to 2 to the load times its number under the root: the sums are brought from values to positions,
-- and then computed. Assumes nothing.
use Prim.Native.Nat.{ℕ, zero, suc, ◌+◌, ◌-◌, ◌*◌, ◌/◌, ◌%◌, ◌^◌, ◌<◌}
use mathlib.Core.Path.{◌≡◌, refl, sym, ap, ◌∙◌}
use mathlib.Core.Bool.{Bool, true}
use native.Mathlib.Omega.{arith}
use native.Mathlib.Nat.{zero-mul, suc-mul, mul_comm, pow-suc}
use lib.Dec.{T, eqb, eqb→eq, ltb}
use lib.IntN.{ℤ, nat_abs}
use lib.Pow.{pow-add, high, low}
use Rattle.counting.specs.Search.{sum, pick}
use Rattle.counting.proofs.Bools.{by_test}
use Rattle.counting.proofs.Sums.{sum_cong, sum_add, sum_const, sum_split}
use Rattle.counting.proofs.Orders.{sum_perm, sum_mul}
use Rattle.gray.specs.Gray.{gray}
use Rattle.gray.specs.Positions.{position, value_at, bits_at}
use Rattle.gray.proofs.Computed.{up_to, below}
use Rattle.gray.proofs.PositionLaws.{position_lt, bits_position}
use Rattle.gray.proofs.GrayLaws.{gray_value_at, value_at_up, value_at_down}
use Rattle.points.specs.Points.{even_point, cross, odd_point, point_of, load_listed}
use Rattle.points.specs.Roots.{root}
use Rattle.points.specs.Squares.{square_of, squares, SquareClaims}
use Rattle.points.proofs.CrossLaws.{nat_abs_signed}
use Rattle.points.proofs.BackLaws.{Covered, covered, at_most, by_rule, one_bit, even_bits, odd_bits, some_even, some_odd, whole_odd, point_even, point_odd}

-- ---- sums

-- over a number in two parts: over its upper part, then over its lower
blocks : (h : ℕ → ℕ → ℕ) (n a : ℕ) → sum (λ v. h (v / 2 ^ n) (v % 2 ^ n)) (a * 2 ^ n) ≡ sum (λ i. sum (λ j. h i j) (2 ^ n)) a
unfolding sum
blocks h n zero = rw (zero-mul (2 ^ n)) refl
blocks h n (suc a) =
    ap (sum (λ v. h (v / 2 ^ n) (v % 2 ^ n))) (suc-mul a (2 ^ n))
    ∙ sum_split (λ v. h (v / 2 ^ n) (v % 2 ^ n)) (a * 2 ^ n) (2 ^ n)
    ∙ (λ k. blocks h n a k + sum_cong (λ i. h ((a * 2 ^ n + i) / 2 ^ n) ((a * 2 ^ n + i) % 2 ^ n)) (λ j. h a j) (2 ^ n) (λ i l. rw (high a n l, low a n l) refl) k)

-- over values that are the same from both ends
halves : (h : ℕ → ℕ) (n : ℕ) → ((p : ℕ) → p < n → h (n + n - 1 - p) ≡ h p) → sum h (n + n) ≡ 2 * sum h n
halves h n same =
    let back : (i : ℕ) → i < n → h (n + i) ≡ h (n - 1 - i) =
    λ i l. let e : n + i ≡ n + n - 1 - (n - 1 - i) = omega arith in ap h e ∙ same (n - 1 - i) (omega arith) in
    let turned = sum_cong (λ i. h (n + i)) (λ i. h (n - 1 - i)) n back ∙ sum_perm n (λ i. n - 1 - i) (λ p q l g e. omega arith) (λ i l. omega arith) h in
    omega (arith, sum_split h n n, turned)

-- ---- over all Gray values of n bits: over all positions

gray_sum : (f : ℤ → ℕ) (n : ℕ) → sum (λ x. f (gray n x)) (2 ^ n) ≡ sum (λ p. f (value_at n p)) (2 ^ n)
gray_sum f n =
    sum_cong (λ x. f (gray n x)) (λ x. f (value_at n (position n x))) (2 ^ n) (λ x l. ap f (gray_value_at n x))
    ∙ sum_perm (2 ^ n) (position n) (λ p q l g e. sym (bits_position n p l) ∙ ap (bits_at n) e ∙ bits_position n q g) (λ x l. position_lt n x) (λ p. f (value_at n p))

-- of absolute values half the positions are enough
gray_abs : (f : ℕ → ℕ) (n : ℕ) → sum (λ x. f (nat_abs (gray (suc n) x))) (2 ^ suc n) ≡ 2 * sum (λ p. f (2 ^ suc n - 1 - 2 * p)) (2 ^ n)
gray_abs f n =
    let d = pow-suc 2 n in
    let h : ℕ → ℕ = λ p. f (nat_abs (value_at (suc n) p)) in
    let two : 2 ^ suc n ≡ 2 ^ n + 2 ^ n = omega arith in
    let up : (p : ℕ) → p < 2 ^ n → h p ≡ f (2 ^ suc n - 1 - 2 * p) = λ p l. ap (λ (z : ℤ). f (nat_abs z)) (value_at_up (suc n) p (omega arith)) in
    let down : (p : ℕ) → p < 2 ^ n → h (2 ^ n + 2 ^ n - 1 - p) ≡ f (2 ^ suc n - 1 - 2 * p) =
    λ p l. ap (λ (z : ℤ). f (nat_abs z)) (value_at_down (suc n) (2 ^ n + 2 ^ n - 1 - p) (omega arith)) ∙ ap f (omega arith) in
    gray_sum (λ z. f (nat_abs z)) (suc n) ∙ ap (sum h) two ∙ halves h (2 ^ n) (λ p l. down p l ∙ sym (up p l))
    ∙ ap (λ (k : ℕ). 2 * k) (sum_cong h (λ p. f (2 ^ suc n - 1 - 2 * p)) (2 ^ n) up)

-- ---- 2n bits, n = k + 1

square : ℕ → ℕ
square c = c * c

-- the squares of one coordinate
coordinate_total : ℕ → ℕ
coordinate_total k = 2 * sum (λ p. square (2 ^ suc k - 1 - 2 * p)) (2 ^ k)

even_total : (k : ℕ) → sum (λ v. square_of (even_point (suc k) v)) (2 ^ suc k * 2 ^ suc k) ≡ 2 ^ suc k * coordinate_total k + coordinate_total k * 2 ^ suc k
unfolding even_point square coordinate_total
even_total k =
    let n = suc k in
    let g : ℕ → ℕ = λ x. square (nat_abs (gray n x)) in
    let t : sum g (2 ^ n) ≡ coordinate_total k = gray_abs square k in
    blocks (λ i j. g j + g i) n (2 ^ n)
    ∙ sum_cong (λ i. sum (λ j. g j + g i) (2 ^ n)) (λ i. sum g (2 ^ n) + g i * 2 ^ n) (2 ^ n)
    (λ i l. sum_add g (λ j. g i) (2 ^ n) ∙ ap (λ (c : ℕ). sum g (2 ^ n) + c) (sum_const (g i) (2 ^ n) ∙ mul_comm (2 ^ n) (g i)))
    ∙ sum_add (λ i. sum g (2 ^ n)) (λ i. g i * 2 ^ n) (2 ^ n)
    ∙ (λ z. sum_const (sum g (2 ^ n)) (2 ^ n) z + sum_mul g (2 ^ n) (2 ^ n) z)
    ∙ (λ z. 2 ^ n * t z + t z * 2 ^ n)

-- ---- 2n + 1 bits, n = k + 1

-- the square of a point of the cross, by the absolute values of the rectangle's coordinates
cross_square : ℕ → ℕ → ℕ → ℕ
cross_square s a b =
    pick (ltb a (3 * s)) (a * a + b * b)
    (pick (ltb s b) ((a - 2 * s) * (a - 2 * s) + (4 * s - b) * (4 * s - b))
    ((4 * s - a) * (4 * s - a) + (b + 2 * s) * (b + 2 * s)))

cross_square_lem : (s : ℕ) (i q : ℤ) → square_of (cross s i q) ≡ cross_square s (nat_abs i) (nat_abs q)
unfolding cross cross_square
cross_square_lem s i q =
    by_test (ltb (nat_abs i) (3 * s))
    (λ t. rw t refl)
    (λ t. by_test (ltb s (nat_abs q))
    (λ u. rw (t, u) (simp nat_abs_signed refl))
    (λ u. rw (t, u) (simp nat_abs_signed refl)))

-- the squares of the cross
cross_total : ℕ → ℕ
cross_total k = 2 * sum (λ p. 2 * sum (λ q. cross_square (2 ^ (suc k - 1)) (2 ^ suc (suc k) - 1 - 2 * p) (2 ^ suc k - 1 - 2 * q)) (2 ^ k)) (2 ^ suc k)

odd_total : (k : ℕ) → sum (λ v. square_of (odd_point (suc k) v)) (2 ^ suc (suc k) * 2 ^ suc k) ≡ cross_total k
unfolding odd_point cross_total
odd_total k =
    let n = suc k in
    let s = 2 ^ (n - 1) in
    let row : ℕ → ℕ = λ a. 2 * sum (λ q. cross_square s a (2 ^ n - 1 - 2 * q)) (2 ^ k) in
    blocks (λ i j. square_of (cross s (gray (suc n) i) (gray n j))) n (2 ^ suc n)
    ∙ sum_cong (λ i. sum (λ j. square_of (cross s (gray (suc n) i) (gray n j))) (2 ^ n)) (λ i. row (nat_abs (gray (suc n) i))) (2 ^ suc n)
    (λ i l.
    sum_cong (λ j. square_of (cross s (gray (suc n) i) (gray n j))) (λ j. cross_square s (nat_abs (gray (suc n) i)) (nat_abs (gray n j))) (2 ^ n)
    (λ j g. cross_square_lem s (gray (suc n) i) (gray n j))
    ∙ gray_abs (cross_square s (nat_abs (gray (suc n) i))) k)
    ∙ gray_abs row n

-- ---- every listed load

load_total : ℕ → ℕ
load_total m =
    let k = m / 2 - 1 in
    pick (eqb m 1) 2 (pick (eqb (m % 2) 0) (2 ^ suc k * coordinate_total k + coordinate_total k * 2 ^ suc k) (cross_total k))

one_total : squares 1 ≡ 2
unfolding squares sum point_of gray
one_total = refl

squares_load : (m : ℕ) → Covered m → squares m ≡ load_total m
unfolding squares load_total
squares_load m c =
    let k = m / 2 - 1 in
    let even = 2 ^ suc k * coordinate_total k + coordinate_total k * 2 ^ suc k in
    by_rule m
    (λ e. ap squares e ∙ one_total ∙ sym (one_bit m 2 even (cross_total k) e))
    (λ o e.
    let z = some_even m c e in
    let n : m / 2 ≡ suc k = omega arith in
    let w : m ≡ suc k + suc k = omega arith in
    sum_cong (λ v. square_of (point_of m v)) (λ v. square_of (even_point (suc k) v)) (2 ^ m) (λ v l. ap square_of (point_even m v o e ∙ ap (λ (j : ℕ). even_point j v) n))
    ∙ ap (sum (λ v. square_of (even_point (suc k) v))) (ap (λ (j : ℕ). 2 ^ j) w ∙ pow-add 2 (suc k) (suc k))
    ∙ even_total k ∙ sym (even_bits m 2 even (cross_total k) o e))
    (λ o e.
    let z = some_odd m c o e in
    let n : m / 2 ≡ suc k = omega arith in
    let w : m ≡ suc (suc k) + suc k = omega (arith, whole_odd m c e) in
    sum_cong (λ v. square_of (point_of m v)) (λ v. square_of (odd_point (suc k) v)) (2 ^ m) (λ v l. ap square_of (point_odd m v o e ∙ ap (λ (j : ℕ). odd_point j v) n))
    ∙ ap (sum (λ v. square_of (odd_point (suc k) v))) (ap (λ (j : ℕ). 2 ^ j) w ∙ pow-add 2 (suc (suc k)) (suc k))
    ∙ odd_total k ∙ sym (odd_bits m 2 even (cross_total k) o e))

right : ℕ → Bool
right m = pick (load_listed m) (eqb (load_total m) (root m * 2 ^ m)) true

all_right : T (up_to right 15)
unfolding right load_total coordinate_total cross_total square cross_square sum load_listed
all_right = tt

pub square_claims : SquareClaims
unfolding right
square_claims m t =
    squares_load m (covered m t)
    ∙ eqb→eq (load_total m) (root m * 2 ^ m) (rw t at (below right 15 all_right m (omega (arith, at_most m t))))
