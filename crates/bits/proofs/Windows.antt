-- A cell's bits through a window of w bits, where the next cell's begin, and how many cells are left. Assumes nothing.
use Prim.Native.Nat.{ℕ, zero, suc, ◌+◌, ◌-◌, ◌*◌, ◌%◌, ◌/◌, ◌^◌, ◌≤◌, ◌<◌}
use mathlib.Core.Path.{◌≡◌, refl, sym, ap, ◌∙◌}
use mathlib.Core.Bool.{Bool}
use mathlib.Core.List.{List, [], ◌∷◌, ◌++◌, append-nil}
use native.Mathlib.Nat.{mod-lt, lt_of_lt_of_le, le_of_suc-le-suc, not-suc-le-zero, one-mul}
use native.Mathlib.Omega.{arith}
use lib.Pow.{pow_pos, pow_mono, shl_exact, shl_lt, field, mod-mod-pow}
use lib.ListN.{length, get_or, take, drop, length-drop, take-append-drop}
use lib.Seq.{length-take-le, take_all, take-suc, drop-drop, get_or-drop}
use Rattle.rules.specs.Bits.{digits, value, total, cell_bits, stream_bits, filled_from}
use Rattle.bits.proofs.BitLaws.{value-take, value-drop}
use Rattle.bits.proofs.FillLaws.{cells_at, bits_append, total-append}

-- ---- the window

-- l bits from bit o on, of w
in_window : (n w o l : ℕ) → o + l ≤ w → n % 2 ^ w / 2 ^ o % 2 ^ l ≡ n / 2 ^ o % 2 ^ l
in_window n w o l h =
    let j : ℕ = w - o in
    let a : w ≡ j + o = omega arith in
    let b : j ≡ j - l + l = omega arith in
    ap (λ (k : ℕ). n % 2 ^ k / 2 ^ o % 2 ^ l) a
    ∙ ap (λ (x : ℕ). x % 2 ^ l) (field n j o)
    ∙ ap (λ (k : ℕ). n / 2 ^ o % 2 ^ k % 2 ^ l) b
    ∙ mod-mod-pow (n / 2 ^ o) (j - l) l

-- cell c, from a window of w bits at a byte
pub window_cell : (ls bytes : List ℕ) (w start c at o : ℕ) → c < length ls → at * 8 + o ≡ start + total (take c ls) → o + get_or ls c 0 ≤ w
    → value (drop (at * 8) (stream_bits bytes)) % 2 ^ w / 2 ^ o % 2 ^ get_or ls c 0 ≡ get_or (filled_from ls bytes start) c 0
unfolding filled_from
window_cell ls bytes w start c at o h e s =
    let l : ℕ = get_or ls c 0 in
    let bs : List Bool = stream_bits bytes in
    in_window (value (drop (at * 8) bs)) w o l s
    ∙ ap (λ (x : ℕ). x % 2 ^ l) (sym (value-drop o (drop (at * 8) bs)) ∙ ap value (drop-drop o (at * 8) bs ∙ ap (λ (k : ℕ). drop k bs) e))
    ∙ sym (value-take l (drop (start + total (take c ls)) bs))
    ∙ ap (λ (r : List Bool). value (take l r)) (sym (drop-drop (total (take c ls)) start bs))
    ∙ sym (cells_at ls (drop start bs) c h)

-- ---- where the next cell begins

pub total_suc : (ls : List ℕ) (c : ℕ) → c < length ls → total (take (suc c) ls) ≡ total (take c ls) + get_or ls c 0
unfolding total
total_suc [] c h = absurd (not-suc-le-zero h)
total_suc (l ∷ ls) zero h = omega arith
total_suc (l ∷ ls) (suc c) h = omega (arith, total_suc ls c (le_of_suc-le-suc h))

pub total_part : (ls : List ℕ) (c : ℕ) → total (take c ls) ≤ total ls
unfolding total
total_part [] zero = omega arith
total_part [] (suc c) = omega arith
total_part (l ∷ ls) zero = omega arith
total_part (l ∷ ls) (suc c) = omega (arith, total_part ls c)

pub total_all : (ls : List ℕ) (c : ℕ) → length ls ≤ c → total (take c ls) ≡ total ls
unfolding total
total_all [] zero h = refl
total_all [] (suc c) h = refl
total_all (l ∷ ls) zero h = absurd (not-suc-le-zero h)
total_all (l ∷ ls) (suc c) h = ap (λ (n : ℕ). l + n) (total_all ls c (le_of_suc-le-suc h))

-- the bits of one more cell
pub bits_snoc : (ls xs : List ℕ) (c : ℕ) → c < length ls → length xs ≡ length ls
    → cell_bits (take (suc c) ls) (take (suc c) xs) ≡ cell_bits (take c ls) (take c xs) ++ digits (get_or ls c 0) (get_or xs c 0)
bits_snoc ls xs c h e =
    rw (take-suc ls c 0 h, take-suc xs c 0 (omega arith))
    (bits_append (take c ls) (get_or ls c 0 ∷ []) (take c xs) (get_or xs c 0 ∷ []) (length-take-le c xs (omega arith) ∙ sym (length-take-le c ls (omega arith)))
    ∙ ap (λ (r : List Bool). cell_bits (take c ls) (take c xs) ++ r) (unfold cell_bits in append-nil (digits (get_or ls c 0) (get_or xs c 0))))

-- the bits of cell c lie in the stream
pub place : (ls bytes : List ℕ) (start c at o : ℕ) → c < length ls → ((i : ℕ) → i < length ls → get_or ls i 0 ≤ 14) → start + total ls ≤ length bytes * 8
    → at * 8 + o ≡ start + total (take c ls) → (get_or ls c 0 ≤ 14) × (at * 8 + o + get_or ls c 0 ≤ length bytes * 8)
place ls bytes start c at o h small fits e = (small c h, omega (arith, total_suc ls c h, total_part ls (suc c)))

-- what follows the first c
pub part : (ls : List ℕ) (c : ℕ) → take (length ls - c) (drop c ls) ≡ drop c ls
part ls c = take_all (length ls - c) (drop c ls) (rw length-drop (omega arith))

-- k loads of at most 14
total_most : (ls : List ℕ) (k : ℕ) → ((i : ℕ) → i < length ls → get_or ls i 0 ≤ 14) → total (take k ls) ≤ k * 14
unfolding total
total_most [] zero h = omega arith
total_most [] (suc k) h = omega arith
total_most (l ∷ ls) zero h = omega arith
total_most (l ∷ ls) (suc k) h = omega (arith, h 0 (omega arith), total_most ls k (λ i s. h (suc i) (omega arith)))

pub total_some : (ls : List ℕ) (c k : ℕ) → ((i : ℕ) → i < length ls → get_or ls i 0 ≤ 14) → total (take k (drop c ls)) ≤ k * 14
total_some ls c k h = total_most (drop c ls) k (λ i s. rw (get_or-drop c ls i 0) (h (c + i) (omega (arith, length-drop c ls))))

-- what the first c loads and the others add up to
pub total_parts : (ls : List ℕ) (c : ℕ) → total ls ≡ total (take c ls) + total (drop c ls)
total_parts ls c = ap total (sym (take-append-drop c ls)) ∙ total-append (take c ls) (drop c ls)

-- where many bits are left, so are five cells
pub five_left : (ls : List ℕ) (c : ℕ) → ((i : ℕ) → i < length ls → get_or ls i 0 ≤ 14) → c ≤ length ls → total (take c ls) + 57 ≤ total ls → c + 5 ≤ length ls
five_left ls c h k r =
    let n : ℕ = length ls - c in
    omega (arith, ap total (part ls c), total_some ls c n h, total_parts ls c)

-- ---- shifts

-- x of j bits, shifted up by k in a word of w bits: nothing is shifted out
pub up_exact : (x j k w : ℕ) → x < 2 ^ j → j + k ≤ w → (x * 2 ^ k) % 2 ^ w ≡ x * 2 ^ k
up_exact x j k w h e = shl_exact {a = x} j k w h e

pub up_small : (x j k w : ℕ) → x < 2 ^ j → j + k ≤ w → x * 2 ^ k < 2 ^ w
up_small x j k w h e = lt_of_lt_of_le (shl_lt {a = x} j k h) (pow_mono e)

-- `1 << l` is 2 ^ l
pub one_shl : (l w : ℕ) → l < w → (1 * 2 ^ l) % 2 ^ w ≡ 2 ^ l
one_shl l w h = up_exact 1 1 l w (omega arith) (omega arith) ∙ one-mul (2 ^ l)

-- a number modulo 2 ^ l has at most n bits
pub mod_small : (x l n : ℕ) → l ≤ n → x % 2 ^ l < 2 ^ n
mod_small x l n h = lt_of_lt_of_le (mod-lt x (pow_pos l)) (pow_mono h)
