-- Laws of numbers as bits: what l bits of a number make, and bits taken apart and put together. Assumes nothing.
use Prim.Native.Nat.{ℕ, zero, suc, ◌+◌, ◌-◌, ◌*◌, ◌%◌, ◌/◌, ◌^◌, ◌≤◌, ◌<◌}
use mathlib.Core.Path.{◌≡◌, refl, sym, ap, ap₂, ◌∙◌}
use mathlib.Core.Bool.{Bool, true, false}
use mathlib.Core.List.{List, [], ◌∷◌, ◌++◌}
use native.Mathlib.Nat.{lt_of_lt_of_le, mod-one, zero-mod, zero-div, zero-add, suc-add, pow-zero, pow-suc}
use native.Mathlib.Numerals.{add-one}
use native.Mathlib.Omega.{arith}
use lib.Dec.{eqb}
use lib.Pow.{pow_mono, mod-pow-add, shr-shr, split, high, low}
use lib.ListN.{length, take, drop}
use lib.Seq.{take-append_seam, drop-append_seam}
use borrow.Author.Tests.{eq-eqb, ne_eqb}
use Rattle.counting.specs.Search.{bit}
use Rattle.counting.proofs.Laws.{bit_le}
use Rattle.rules.specs.Bits.{digits, value}

pub length_digits : (l x : ℕ) → length (digits l x) ≡ l
unfolding digits
length_digits zero x = refl
length_digits (suc l) x = ap suc (length_digits l (x / 2))

-- the lowest bit as a number
odd_bit : (x r : ℕ) → r ≡ x % 2 → bit (eqb r 1) ≡ x % 2
odd_bit x zero e = ap bit (ne_eqb 0 1 (λ z. absurd (omega arith))) ∙ e
odd_bit x (suc zero) e = ap bit (eq-eqb 1 1 refl) ∙ e
odd_bit x (suc (suc r)) e = absurd (omega arith)

-- one digit more
mod_suc : (n l : ℕ) → n % 2 ^ suc l ≡ n / 2 % 2 ^ l * 2 + n % 2
mod_suc n l = rw (← add-one l) (mod-pow-add n l 1)

div_suc : (n l : ℕ) → n / 2 ^ suc l ≡ n / 2 / 2 ^ l
div_suc n l = ap (λ (k : ℕ). n / 2 ^ k) (let z : suc l ≡ 1 + l = omega arith in z) ∙ sym (shr-shr n 1 l)

-- the l lowest bits make the number modulo 2 ^ l
pub value-digits : (l x : ℕ) → value (digits l x) ≡ x % 2 ^ l
unfolding digits value
value-digits zero x = rw pow-zero (sym (mod-one x))
value-digits (suc l) x = omega (arith, odd_bit x (x % 2) refl, value-digits l (x / 2), mod_suc x l)

-- bits are those of the number that they make
pub digits_value : (bs : List Bool) → digits (length bs) (value bs) ≡ bs
unfolding digits value
digits_value [] = refl
digits_value (true ∷ bs) =
    let m : (1 + 2 * value bs) % 2 ≡ 1 = omega arith in
    let h : (1 + 2 * value bs) / 2 ≡ value bs = omega arith in
    rw (m, h) (ap₂ ◌∷◌ (eq-eqb 1 1 refl) (digits_value bs))
digits_value (false ∷ bs) =
    let m : (0 + 2 * value bs) % 2 ≡ 0 = omega arith in
    let h : (0 + 2 * value bs) / 2 ≡ value bs = omega arith in
    rw (m, h) (ap₂ ◌∷◌ (ne_eqb 0 1 (λ z. absurd (omega arith))) (digits_value bs))

-- only the number modulo 2 ^ l matters
pub digits_mod : (l x : ℕ) → digits l (x % 2 ^ l) ≡ digits l x
digits_mod l x = rw (← value-digits l x) (ap (λ (n : ℕ). digits n (value (digits l x))) (sym (length_digits l x)) ∙ digits_value (digits l x))

-- bits taken apart: the j lowest, then the k above them
pub digits_split : (j k x : ℕ) → digits (j + k) x ≡ digits j x ++ digits k (x / 2 ^ j)
unfolding digits
digits_split zero k x = rw (zero-add, pow-zero) (ap (digits k) (let z : x ≡ x / 1 = omega arith in z))
digits_split (suc j) k x = rw (suc-add, div_suc) (ap (◌∷◌ (eqb (x % 2) 1)) (digits_split j k (x / 2)))

-- bits put together
pub digits_join : (j k x y : ℕ) → x < 2 ^ j → digits (j + k) (y * 2 ^ j + x) ≡ digits j x ++ digits k y
digits_join j k x y h =
    digits_split j k (y * 2 ^ j + x)
    ∙ ap₂ ◌++◌ (sym (digits_mod j (y * 2 ^ j + x)) ∙ ap (digits j) (low y j h)) (ap (digits k) (high y j h))

-- ---- the number of a part

pub value-take : (l : ℕ) (bs : List Bool) → value (take l bs) ≡ value bs % 2 ^ l
unfolding value
value-take zero bs = rw pow-zero (sym (mod-one (value bs)))
value-take (suc l) [] = sym (zero-mod (2 ^ suc l))
value-take (suc l) (b ∷ bs) =
    let n : ℕ = bit b + 2 * value bs in
    let h : n / 2 ≡ value bs = omega (arith, bit_le b) in
    let e : n / 2 % 2 ^ l ≡ value bs % 2 ^ l = ap (λ (x : ℕ). x % 2 ^ l) h in
    omega (arith, value-take l bs, mod_suc n l, bit_le b)

pub value-drop : (l : ℕ) (bs : List Bool) → value (drop l bs) ≡ value bs / 2 ^ l
unfolding value
value-drop zero bs = rw pow-zero (let z : value bs ≡ value bs / 1 = omega arith in z)
value-drop (suc l) [] = sym (zero-div (2 ^ suc l))
value-drop (suc l) (b ∷ bs) =
    let n : ℕ = bit b + 2 * value bs in
    let h : n / 2 ≡ value bs = omega (arith, bit_le b) in
    value-drop l bs ∙ ap (λ (x : ℕ). x / 2 ^ l) (sym h) ∙ sym (div_suc n l)

pub value_lt : (bs : List Bool) → value bs < 2 ^ length bs
unfolding value
value_lt [] = rw pow-zero (omega arith)
value_lt (b ∷ bs) = rw pow-suc (omega (arith, value_lt bs, bit_le b))

-- few bits make a small number
pub value_small : (bs : List Bool) (n : ℕ) → length bs ≤ n → value bs < 2 ^ n
value_small bs n h = lt_of_lt_of_le (value_lt bs) (pow_mono h)

-- the number of bits after bits
pub value-append : (bs cs : List Bool) → value (bs ++ cs) ≡ value cs * 2 ^ length bs + value bs
value-append bs cs =
    let n : ℕ = value (bs ++ cs) in
    let high : n / 2 ^ length bs ≡ value cs = sym (value-drop (length bs) (bs ++ cs)) ∙ ap value (drop-append_seam bs cs) in
    let low : n % 2 ^ length bs ≡ value bs = sym (value-take (length bs) (bs ++ cs)) ∙ ap value (take-append_seam bs cs) in
    sym (split n (length bs)) ∙ ap₂ (λ (x y : ℕ). x * 2 ^ length bs + y) high low

-- more bits of a number than it was made of
pub digits_more : (bs : List Bool) (w : ℕ) → length bs ≤ w → digits w (value bs) ≡ bs ++ digits (w - length bs) (value bs / 2 ^ length bs)
digits_more bs w h =
    let n : w ≡ length bs + (w - length bs) = omega arith in
    ap (λ (k : ℕ). digits k (value bs)) n ∙ digits_split (length bs) (w - length bs) (value bs) ∙ ap (λ (r : List Bool). r ++ digits (w - length bs) (value bs / 2 ^ length bs)) (digits_value bs)
