-- The house rule: reversed bits, the key, and the rank in closed form: the cells of the rows read earlier, and the column. Assumes nothing.
use Prim.Native.Nat.{ℕ, zero, suc, ◌+◌, ◌*◌, ◌%◌, ◌/◌, ◌^◌, ◌≤◌, ◌<◌}
use mathlib.Core.Path.{◌≡◌, refl, sym, ap, ap₂, ◌∙◌}
use mathlib.Core.Logic.{by_cases}
use mathlib.Core.Bool.{Bool, ◌&&◌}
use native.Mathlib.Nat.{mod-lt, div-add-mod, pow-suc, mul_comm, div-le_self, div-div-eq-div-mul, mul-le-mul_right, div-one}
use native.Mathlib.Decide.{dec_lt}
use native.Mathlib.Omega.{arith}
use lib.Dec.{ltb, eqb}
use lib.Arith.{digits_div, digits_mod, digits_lt, mod-mul}
use lib.Pow.{pow_pos}
use borrow.Author.Tests.{lt-ltb, le-ltb, eqb-true, eqb-false, eq-eqb, ne_eqb}
use Rattle.counting.specs.Search.{bit, sum, count, rank}
use Rattle.counting.proofs.Bools.{by_test, and_false}
use Rattle.counting.proofs.Sums.{sum_cong, sum_swap, sum_add, sum_zero, count_eq}
use Rattle.counting.proofs.Ranks.{InjBelow}
use Rattle.counting.proofs.Orders.{sum_pick, sum_cut, sum_mul}
use Rattle.rules.specs.Frame.{reversed, house_key}
use Rattle.frame.specs.Rows.{row_length, rows_before, house_rank}

pub reversed_lt : (b x : ℕ) → reversed b x < 2 ^ b
unfolding reversed
reversed_lt zero x = omega arith
reversed_lt (suc b) x = rw (pow-suc 2 b, mul_comm (2 ^ b) 2) (digits_lt (mod-lt x (let h : 0 < 2 = omega arith in h)) (reversed_lt b (x / 2)))

pub reversed_inj : (b : ℕ) → InjBelow (2 ^ b) (reversed b)
unfolding reversed
reversed_inj zero x y hx hy e = omega arith
reversed_inj (suc b) x y hx hy e =
    let hx' : x < 2 ^ b * 2 = rw (pow-suc 2 b) at hx in
    let hy' : y < 2 ^ b * 2 = rw (pow-suc 2 b) at hy in
    let low : x % 2 ≡ y % 2 = sym (digits_div (x % 2) (reversed_lt b (x / 2))) ∙ ap (λ (z : ℕ). z / 2 ^ b) e ∙ digits_div (y % 2) (reversed_lt b (y / 2)) in
    let up : reversed b (x / 2) ≡ reversed b (y / 2) = sym (digits_mod (x % 2) (reversed_lt b (x / 2))) ∙ ap (λ (z : ℕ). z % 2 ^ b) e ∙ digits_mod (y % 2) (reversed_lt b (y / 2)) in
    let half : x / 2 ≡ y / 2 = reversed_inj b (x / 2) (y / 2) (omega arith) (omega arith) up in
    omega arith

pub house_key_inj : (b c n : ℕ) → n ≤ c → InjBelow n (house_key b c)
unfolding house_key
house_key_inj b c n h p q hp hq e =
    let cp : p / 2 ^ b < c = omega (arith, div-le_self p (2 ^ b)) in
    let cq : q / 2 ^ b < c = omega (arith, div-le_self q (2 ^ b)) in
    let rows : reversed b (p % 2 ^ b) ≡ reversed b (q % 2 ^ b) = sym (digits_div (reversed b (p % 2 ^ b)) cp) ∙ ap (λ (z : ℕ). z / c) e ∙ digits_div (reversed b (q % 2 ^ b)) cq in
    let cols : p / 2 ^ b ≡ q / 2 ^ b = sym (digits_mod (reversed b (p % 2 ^ b)) cp) ∙ ap (λ (z : ℕ). z % c) e ∙ digits_mod (reversed b (q % 2 ^ b)) cq in
    let row : p % 2 ^ b ≡ q % 2 ^ b = reversed_inj b (p % 2 ^ b) (q % 2 ^ b) (mod-lt p (pow_pos b)) (mod-lt q (pow_pos b)) rows in
    sym (div-add-mod p (2 ^ b)) ∙ ap₂ (λ (x y : ℕ). 2 ^ b * x + y) cols row ∙ div-add-mod q (2 ^ b)

reversed_suc : (b x : ℕ) → reversed (suc b) x ≡ x % 2 * 2 ^ b + reversed b (x / 2)
unfolding reversed
reversed_suc b x = refl

-- the highest bit comes lowest
reversed_top : (b x : ℕ) → x < 2 ^ suc b → reversed (suc b) x ≡ reversed b (x % 2 ^ b) * 2 + x / 2 ^ b
reversed_top zero x h = unfold reversed in (let e : x / 1 ≡ x = div-one x in omega arith)
reversed_top (suc b) x h =
    let P : ℕ = 2 ^ b in
    let pw : 2 ^ suc b ≡ P * 2 = pow-suc 2 b in
    let h2 : x < 2 ^ suc b * 2 = rw (pow-suc 2 (suc b)) at h in
    let ih : reversed (suc b) (x / 2) ≡ reversed b (x / 2 % P) * 2 + x / 2 / P = reversed_top b (x / 2) (omega arith) in
    let two : 0 < 2 = omega arith in
    let split : x % 2 ^ suc b ≡ x / 2 % P * 2 + x % 2 = ap (λ (y : ℕ). x % y) pw ∙ mod-mul x (pow_pos b) two in
    let m2 : x % 2 ^ suc b % 2 ≡ x % 2 = ap (λ (y : ℕ). y % 2) split ∙ digits_mod (x / 2 % P) (mod-lt x two) in
    let d2 : x % 2 ^ suc b / 2 ≡ x / 2 % P = ap (λ (y : ℕ). y / 2) split ∙ digits_div (x / 2 % P) (mod-lt x two) in
    let dd : x / 2 ^ suc b ≡ x / 2 / P = ap (λ (y : ℕ). x / y) (pw ∙ mul_comm P 2) ∙ sym (div-div-eq-div-mul x 2 P) in
    reversed_suc (suc b) x ∙ rw (ih, reversed_suc b (x % 2 ^ suc b), m2, d2, dd, pw) (omega arith)

pub reversed_reversed : (b x : ℕ) → x < 2 ^ b → reversed b (reversed b x) ≡ x
reversed_reversed zero x h = unfold reversed in omega arith
reversed_reversed (suc b) x h =
    let y : ℕ = reversed (suc b) x in
    let e : y ≡ x % 2 * 2 ^ b + reversed b (x / 2) = reversed_suc b x in
    let h2 : x < 2 ^ b * 2 = rw (pow-suc 2 b) at h in
    let hi : y / 2 ^ b ≡ x % 2 = ap (λ (z : ℕ). z / 2 ^ b) e ∙ digits_div (x % 2) (reversed_lt b (x / 2)) in
    let lo : y % 2 ^ b ≡ reversed b (x / 2) = ap (λ (z : ℕ). z % 2 ^ b) e ∙ digits_mod (x % 2) (reversed_lt b (x / 2)) in
    reversed_top b y (reversed_lt (suc b) x) ∙ rw (hi, lo, reversed_reversed b (x / 2) (omega arith)) (omega arith)

-- two-digit numbers compare by the first digit, then by the second
lex_lt : (c i x j y : ℕ) → x < c → i < j → i * c + x < j * c + y
lex_lt c i x j y hx h = omega (arith, mul-le-mul_right c h)

-- reading order, cell by cell: an earlier row, or the same row and an earlier column
earlier : (b c p q : ℕ) → p < c → q < c
    → bit (ltb (house_key b c q) (house_key b c p))
    ≡ bit (ltb (reversed b (q % 2 ^ b)) (reversed b (p % 2 ^ b))) + bit (eqb (q % 2 ^ b) (p % 2 ^ b) && ltb (q / 2 ^ b) (p / 2 ^ b))
unfolding house_key
earlier b c p q hp hq =
    go (reversed b (q % 2 ^ b)) (reversed b (p % 2 ^ b)) (q / 2 ^ b) (p / 2 ^ b) (omega (arith, div-le_self q (2 ^ b))) (omega (arith, div-le_self p (2 ^ b)))
    (λ e. ap (reversed b) e) (λ e. reversed_inj b (q % 2 ^ b) (p % 2 ^ b) (mod-lt q (pow_pos b)) (mod-lt p (pow_pos b)) e)
  where
    go : (i j x y : ℕ) → x < c → y < c → (q % 2 ^ b ≡ p % 2 ^ b → i ≡ j) → (i ≡ j → q % 2 ^ b ≡ p % 2 ^ b)
        → bit (ltb (i * c + x) (j * c + y)) ≡ bit (ltb i j) + bit (eqb (q % 2 ^ b) (p % 2 ^ b) && ltb x y)
    go i j x y hx hy to from =
        by_cases (dec_lt i j)
        (λ l.
        let ne : q % 2 ^ b ≡ p % 2 ^ b → ⊥ = λ e. let z : i ≡ j = to e in omega arith in
        rw (lt-ltb (i * c + x) (j * c + y) (lex_lt c i x j y hx l), lt-ltb i j l, ne_eqb (q % 2 ^ b) (p % 2 ^ b) ne) refl)
        (λ nl.
        by_cases (dec_lt j i)
        (λ l.
        let ne : q % 2 ^ b ≡ p % 2 ^ b → ⊥ = λ e. let z : i ≡ j = to e in omega arith in
        rw (le-ltb (i * c + x) (j * c + y) (omega (arith, lex_lt c j y i x hy l)), le-ltb i j (omega arith), ne_eqb (q % 2 ^ b) (p % 2 ^ b) ne) refl)
        (λ nr.
        let e : i ≡ j = omega arith in
        rw (le-ltb i j (omega arith), eq-eqb (q % 2 ^ b) (p % 2 ^ b) (from e))
        (by_cases (dec_lt x y)
        (λ l. rw (lt-ltb x y l, lt-ltb (i * c + x) (j * c + y) (omega (arith, ap (λ (z : ℕ). z * c) e))) refl)
        (λ l. rw (le-ltb x y (omega arith), le-ltb (i * c + x) (j * c + y) (omega (arith, ap (λ (z : ℕ). z * c) e))) refl))))

-- of the cells of a row, as many stand in the columns before c as there are columns
pub columns : (R r n c : ℕ) → r < R → c * R + r < n + R → count (λ q. eqb (q % R) r && ltb (q / R) c) n ≡ c
unfolding count
columns R r n zero hr h = sum_cong (λ q. bit (eqb (q % R) r && ltb (q / R) 0)) (λ q. 0) n (λ q l. ap (λ (t : Bool). bit (eqb (q % R) r && t)) (le-ltb (q / R) 0 (omega arith)) ∙ ap bit (and_false (eqb (q % R) r))) ∙ sum_zero n
columns R r n (suc c) hr h =
    sum_cong (λ q. bit (eqb (q % R) r && ltb (q / R) (suc c))) (λ q. bit (eqb (q % R) r && ltb (q / R) c) + bit (eqb q (c * R + r))) n (λ q l. one q)
    ∙ sum_add (λ q. bit (eqb (q % R) r && ltb (q / R) c)) (λ q. bit (eqb q (c * R + r))) n
    ∙ omega (arith, columns R r n c hr (omega arith), count_eq n (c * R + r) (omega arith))
  where
    one : (q : ℕ) → bit (eqb (q % R) r && ltb (q / R) (suc c)) ≡ bit (eqb (q % R) r && ltb (q / R) c) + bit (eqb q (c * R + r))
    one q =
        by_test (eqb (q % R) r)
        (λ e.
        let m : q % R ≡ r = eqb-true (q % R) r e in
        let d : R * (q / R) + q % R ≡ q = div-add-mod q R in
        by_cases (dec_lt (q / R) c)
        (λ l. rw (e, lt-ltb (q / R) c l, lt-ltb (q / R) (suc c) (omega arith), ne_eqb q (c * R + r) (λ z. let w : q / R ≡ c = ap (λ (y : ℕ). y / R) z ∙ digits_div c hr in omega arith)) refl)
        (λ nl.
        by_cases (dec_lt c (q / R))
        (λ l. rw (e, le-ltb (q / R) c (omega arith), le-ltb (q / R) (suc c) (omega arith), ne_eqb q (c * R + r) (λ z. let w : q / R ≡ c = ap (λ (y : ℕ). y / R) z ∙ digits_div c hr in omega arith)) refl)
        (λ nr.
        let w : q / R ≡ c = omega arith in
        rw (e, le-ltb (q / R) c (omega arith), lt-ltb (q / R) (suc c) (omega arith), eq-eqb q (c * R + r) (omega (arith, ap (λ (y : ℕ). R * y) w))) refl)))
        (λ e. rw (e, ne_eqb q (c * R + r) (λ z. eqb-false (q % R) r e (ap (λ (y : ℕ). y % R) z ∙ digits_mod c hr))) refl)

-- the cells in the rows read before the i-th
pub rows : (b n i : ℕ) → i ≤ 2 ^ b → count (λ q. ltb (reversed b (q % 2 ^ b)) i) n ≡ rows_before b n i
unfolding count rows_before row_length
rows b n i h =
    sum_cong (λ q. bit (ltb (reversed b (q % 2 ^ b)) i)) (λ q. sum (λ k. bit (eqb (reversed b (q % 2 ^ b)) k) * bit (ltb k i)) (2 ^ b)) n
    (λ q l. sym (sum_pick (λ k. bit (ltb k i)) (2 ^ b) (reversed b (q % 2 ^ b)) (reversed_lt b (q % 2 ^ b))))
    ∙ sum_swap (λ q k. bit (eqb (reversed b (q % 2 ^ b)) k) * bit (ltb k i)) n (2 ^ b)
    ∙ sum_cong (λ k. sum (λ q. bit (eqb (reversed b (q % 2 ^ b)) k) * bit (ltb k i)) n) (λ k. bit (ltb k i) * sum (λ q. bit (eqb (q % 2 ^ b) (reversed b k))) n) (2 ^ b)
    (λ k l. sum_mul (λ q. bit (eqb (reversed b (q % 2 ^ b)) k)) (bit (ltb k i)) n
    ∙ mul_comm (sum (λ q. bit (eqb (reversed b (q % 2 ^ b)) k)) n) (bit (ltb k i))
    ∙ ap (λ (x : ℕ). bit (ltb k i) * x) (sum_cong (λ q. bit (eqb (reversed b (q % 2 ^ b)) k)) (λ q. bit (eqb (q % 2 ^ b) (reversed b k))) n (λ q hq. ap bit (turned q k l))))
    ∙ sum_cut (λ k. sum (λ q. bit (eqb (q % 2 ^ b) (reversed b k))) n) (2 ^ b) i h
  where
    turned : (q k : ℕ) → k < 2 ^ b → eqb (reversed b (q % 2 ^ b)) k ≡ eqb (q % 2 ^ b) (reversed b k)
    turned q k l =
        by_test (eqb (q % 2 ^ b) (reversed b k))
        (λ e. eq-eqb (reversed b (q % 2 ^ b)) k (ap (reversed b) (eqb-true (q % 2 ^ b) (reversed b k) e) ∙ reversed_reversed b k l) ∙ sym e)
        (λ e. ne_eqb (reversed b (q % 2 ^ b)) k (λ z. eqb-false (q % 2 ^ b) (reversed b k) e (sym (reversed_reversed b (q % 2 ^ b) (mod-lt q (pow_pos b))) ∙ ap (reversed b) z)) ∙ sym e)

pub house_rank_lem : (b c n p : ℕ) → n ≤ c → p < n → rank (house_key b c) n p ≡ house_rank b n p
unfolding rank count house_rank
house_rank_lem b c n p h hp =
    sum_cong (λ q. bit (ltb (house_key b c q) (house_key b c p)))
    (λ q. bit (ltb (reversed b (q % 2 ^ b)) (reversed b (p % 2 ^ b))) + bit (eqb (q % 2 ^ b) (p % 2 ^ b) && ltb (q / 2 ^ b) (p / 2 ^ b))) n
    (λ q l. earlier b c p q (omega arith) (omega arith))
    ∙ sum_add (λ q. bit (ltb (reversed b (q % 2 ^ b)) (reversed b (p % 2 ^ b)))) (λ q. bit (eqb (q % 2 ^ b) (p % 2 ^ b) && ltb (q / 2 ^ b) (p / 2 ^ b))) n
    ∙ ap₂ ◌+◌ (rows b n (reversed b (p % 2 ^ b)) (omega (arith, reversed_lt b (p % 2 ^ b))))
    (columns (2 ^ b) (p % 2 ^ b) n (p / 2 ^ b) (mod-lt p (pow_pos b)) (omega (arith, div-add-mod p (2 ^ b))))
