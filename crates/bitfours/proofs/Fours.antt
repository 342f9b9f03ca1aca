-- Cells of a list two and four at a time: their loads, their bits, and the number that these make. Assumes nothing.
use Prim.Native.Nat.{ℕ, suc, ◌+◌, ◌*◌, ◌%◌, ◌^◌, ◌≤◌, ◌<◌}
use mathlib.Core.Path.{◌≡◌, refl, ap, ap₂, ◌∙◌}
use mathlib.Core.Bool.{Bool}
use mathlib.Core.List.{List, [], ◌∷◌, ◌++◌, append-nil}
use native.Mathlib.Numerals.{add-one}
use native.Mathlib.Omega.{arith}
use lib.ListN.{length, get_or, take, drop, length-take, length-drop}
use lib.Seq.{take-add, drop-cons, drop-drop}
use Rattle.rules.specs.Bits.{digits, value, total, cell_bits}
use Rattle.bits.proofs.BitLaws.{length_digits, value-digits, value-append, value_small}
use Rattle.bits.proofs.FillLaws.{length_bits, bits_append, total-append}

-- as many loads as cells
pub same_part : (ls xs : List ℕ) (c k : ℕ) → length ls ≡ length xs → length (take k (drop c xs)) ≡ length (take k (drop c ls))
same_part ls xs c k e = rw (length-take k (drop c xs), length-take k (drop c ls), length-drop, length-drop, e) refl

-- ---- two at a time

pub two_of : (ls : List ℕ) (c : ℕ) → c + 2 ≤ length ls → take 2 (drop c ls) ≡ get_or ls c 0 ∷ get_or ls (c + 1) 0 ∷ []
two_of ls c h =
    rw add-one (ap (take 2) (drop-cons ls c 0 (omega arith)) ∙ ap (λ (r : List ℕ). get_or ls c 0 ∷ take 1 r) (drop-cons ls (suc c) 0 (omega arith)))

pub total_two : (ls : List ℕ) (c : ℕ) → c + 2 ≤ length ls → total (take 2 (drop c ls)) ≡ get_or ls c 0 + get_or ls (c + 1) 0
total_two ls c h = rw (two_of ls c h) (unfold total in (omega arith))

-- the bits of two cells as a number, the first the lowest
pub value_two : (ls xs : List ℕ) (c : ℕ) → c + 2 ≤ length ls → length ls ≡ length xs
    → value (cell_bits (take 2 (drop c ls)) (take 2 (drop c xs))) ≡ get_or xs (c + 1) 0 % 2 ^ get_or ls (c + 1) 0 * 2 ^ get_or ls c 0 + get_or xs c 0 % 2 ^ get_or ls c 0
unfolding cell_bits
value_two ls xs c h e =
    let l : ℕ = get_or ls c 0 in
    let m : ℕ = get_or ls (c + 1) 0 in
    let x : ℕ = get_or xs c 0 in
    let y : ℕ = get_or xs (c + 1) 0 in
    rw (two_of ls c h, two_of xs c (omega arith), append-nil (digits m y))
    (value-append (digits l x) (digits m y) ∙ rw (length_digits l x, value-digits l x, value-digits m y) refl)

-- the bits of cells of small loads make a small number
pub value_cells : (ls xs : List ℕ) (n : ℕ) → length xs ≡ length ls → total ls ≤ n → value (cell_bits ls xs) < 2 ^ n
value_cells ls xs n e h = value_small (cell_bits ls xs) n (rw (length_bits ls xs e) h)

-- ---- two and two

pub take_two_two : (ls : List ℕ) (c : ℕ) → take 4 (drop c ls) ≡ take 2 (drop c ls) ++ take 2 (drop (c + 2) ls)
take_two_two ls c = take-add 2 2 (drop c ls) ∙ ap (λ (r : List ℕ). take 2 (drop c ls) ++ take 2 r) (drop-drop 2 c ls)

pub total_two_two : (ls : List ℕ) (c : ℕ) → total (take 4 (drop c ls)) ≡ total (take 2 (drop c ls)) + total (take 2 (drop (c + 2) ls))
total_two_two ls c = ap total (take_two_two ls c) ∙ total-append (take 2 (drop c ls)) (take 2 (drop (c + 2) ls))

pub value_two_two : (ls xs : List ℕ) (c : ℕ) → c + 4 ≤ length ls → length ls ≡ length xs
    → value (cell_bits (take 4 (drop c ls)) (take 4 (drop c xs)))
    ≡ value (cell_bits (take 2 (drop (c + 2) ls)) (take 2 (drop (c + 2) xs))) * 2 ^ total (take 2 (drop c ls)) + value (cell_bits (take 2 (drop c ls)) (take 2 (drop c xs)))
value_two_two ls xs c h e =
    let a : List Bool = cell_bits (take 2 (drop c ls)) (take 2 (drop c xs)) in
    let b : List Bool = cell_bits (take 2 (drop (c + 2) ls)) (take 2 (drop (c + 2) xs)) in
    let n : length (take 2 (drop c xs)) ≡ length (take 2 (drop c ls)) = same_part ls xs c 2 e in
    ap₂ (λ (r s : List ℕ). value (cell_bits r s)) (take_two_two ls c) (take_two_two xs c)
    ∙ ap value (bits_append (take 2 (drop c ls)) (take 2 (drop (c + 2) ls)) (take 2 (drop c xs)) (take 2 (drop (c + 2) xs)) n)
    ∙ value-append a b
    ∙ ap (λ (k : ℕ). value b * 2 ^ k + value a) (length_bits (take 2 (drop c ls)) (take 2 (drop c xs)) n)
