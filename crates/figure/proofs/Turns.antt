-- How the commutator goes round: how many of the first cells went to a line, and the line and turn of the next one. Assumes nothing.
use Prim.Native.Nat.{ℕ, suc, ◌+◌, ◌*◌, ◌/◌, ◌%◌, ◌≤◌, ◌<◌}
use mathlib.Core.Path.{◌≡◌, refl, sym, ap, ◌∙◌}
use mathlib.Core.Logic.{by_cases}
use native.Mathlib.Nat.{mod-lt, mod-eq_of_lt, mul-add-mod_self_right, div-add-mod', mul-le-mul_right, add-zero, zero-mod, mod-add-mod}
use native.Mathlib.Decide.{dec_lt}
use native.Mathlib.Omega.{arith}
use lib.Arith.{digits_div, digits_mod}
use lib.Dec.{eqb}
use borrow.Author.Tests.{ne_eqb}
use Rattle.counting.specs.Search.{bit, sum, count}
use Rattle.counting.proofs.Sums.{sum_cong, sum_split, sum_blocks, sum_none, count_eq}
use Rattle.figure.specs.Figure.{commutator}

-- it begins on line 0, and moves on to the next line, after line m - 1 to line 0 again
pub begins_on_line_0 : (m : ℕ) → commutator m 0 ≡ 0
unfolding commutator
begins_on_line_0 m = zero-mod m

pub moves_on : (m p : ℕ) → commutator m (suc p) ≡ (commutator m p + 1) % m
unfolding commutator
moves_on m p = ap (λ (x : ℕ). x % m) (let e : suc p ≡ p + 1 = omega arith in e) ∙ sym (mod-add-mod p m 1)

-- how many of the first p cells go to line c of m
unfoldable pub on_line : ℕ → ℕ → ℕ → ℕ
on_line m c p = count (λ q. eqb (q % m) c) p

pub on_next : (m c p : ℕ) → on_line m c (suc p) ≡ on_line m c p + bit (eqb (p % m) c)
unfolding on_line count sum
on_next m c p = refl

-- after k turns and r cells more, none of which goes to line c: k
on_turns : (m c k r : ℕ) → c < m → r ≤ c → on_line m c (k * m + r) ≡ k
unfolding on_line count
on_turns m c k r hc hr =
    let f : ℕ → ℕ = λ q. bit (eqb (q % m) c) in
    let all : sum f (k * m) ≡ k * 1 =
    sum_blocks f m 1 k
    (λ b l.
    sum_cong (λ i. f (b * m + i)) (λ i. bit (eqb i c)) m (λ i h. ap (λ (x : ℕ). bit (eqb x c)) (mul-add-mod_self_right b m i ∙ mod-eq_of_lt h)) ∙ count_eq m c hc) in
    let rest : sum (λ i. f (k * m + i)) r ≡ 0 =
    sum_none (λ i. f (k * m + i)) r
    (λ i h.
    let l : i < m = omega arith in
    ap (λ (x : ℕ). bit (eqb x c)) (mul-add-mod_self_right k m i ∙ mod-eq_of_lt l) ∙ ap bit (ne_eqb i c (λ z. absurd (omega arith)))) in
    omega (arith, sum_split f (k * m) r)

-- the line of cell p
pub on_here : (m p : ℕ) → 0 < m → on_line m (p % m) p ≡ p / m
on_here m p pos = ap (on_line m (p % m)) (sym (div-add-mod' p m)) ∙ on_turns m (p % m) (p / m) (p % m) (mod-lt p pos) (omega arith)

pub on_all : (m c k : ℕ) → c < m → on_line m c (k * m) ≡ k
on_all m c k h = ap (on_line m c) (sym (add-zero (k * m))) ∙ on_turns m c k 0 h (omega arith)

-- a cell of J turns
pub turn_below : (m J p : ℕ) → 0 < m → p < J * m → p / m < J
turn_below m J p pos h =
    by_cases (dec_lt (p / m) J) (λ c. c)
    (λ c. let l : J ≤ p / m = omega arith in absurd (omega (arith, mul-le-mul_right m l, div-add-mod' p m)))

-- cell k of turn i, where a turn has fewer than J
pub below_times : (i k J r : ℕ) → i < r → k < J → i * J + k < r * J
below_times i k J r hi hk = omega (arith, mul-le-mul_right J hi)

-- cell r of turn q
pub line_of : (m q r : ℕ) → r < m → (q * m + r) % m ≡ r
line_of m q r h = digits_mod q h

pub turn_of : (m q r : ℕ) → r < m → (q * m + r) / m ≡ q
turn_of m q r h = digits_div q h

pub same_cell : (m q r q' r' : ℕ) → r < m → r' < m → q * m + r ≡ q' * m + r' → (q ≡ q') × (r ≡ r')
same_cell m q r q' r' h h' e = (
  sym (turn_of m q r h) ∙ rw e (turn_of m q' r' h'),
  sym (line_of m q r h) ∙ rw e (line_of m q' r' h'),
)
