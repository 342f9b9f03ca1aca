-- Laws of cells as bytes: lengths, places, cells stored and read. Assumes nothing.
use Prim.Native.Nat.{ℕ, zero, suc, ◌+◌, ◌*◌, ◌/◌, ◌%◌, ◌<◌}
use mathlib.Core.Path.{◌≡◌, refl, sym, ap, ap₂, ◌∙◌}
use mathlib.Core.Bool.{false}
use mathlib.Core.List.{List, [], ◌∷◌}
use native.Mathlib.Nat.{not-suc-le-zero, le_of_suc-le-suc, add-zero}
use native.Mathlib.Numerals.{add-one}
use native.Mathlib.Omega.{arith}
use lib.ListN.{length, get_or, set, take}
use lib.Seq.{sets}
use borrow.Author.Tests.{eqb-false}
use Rattle.counting.specs.Search.{tabulate}
use Rattle.counting.proofs.Lists.{length_tabulate, get_d_tabulate, tabulate_cong, is_tabulate}
use Rattle.counting.specs.Bytes.{Octets}
use Rattle.bytecells.specs.Octets.{cells_of, bytes_of, odd, Whole}
use Rattle.bytecells.specs.Swapped.{low_first, swapped}

-- two bytes more
two_suc : (i : ℕ) → 2 * suc i ≡ suc (suc (2 * i))
two_suc i = omega arith

-- ---- lengths and places

pub length_cells : (b : List ℕ) → length (cells_of b) ≡ length b / 2
unfolding cells_of
length_cells [] = refl
length_cells (high ∷ []) = refl
length_cells (high ∷ low ∷ b) = omega (arith, length_cells b)

pub length_bytes : (c : List ℕ) → length (bytes_of c) ≡ 2 * length c
unfolding bytes_of
length_bytes [] = refl
length_bytes (x ∷ c) = omega (arith, length_bytes c)

pub get_or_cells : (b : List ℕ) (i : ℕ) → i < length b / 2 → get_or (cells_of b) i 0 ≡ get_or b (2 * i) 0 * 256 + get_or b (2 * i + 1) 0
unfolding cells_of
get_or_cells [] i h = absurd (omega arith)
get_or_cells (high ∷ []) i h = absurd (omega arith)
get_or_cells (high ∷ low ∷ b) zero h = refl
get_or_cells (high ∷ low ∷ b) (suc i) h =
    let e : 2 * suc i + 1 ≡ suc (suc (2 * i + 1)) = omega arith in
    rw (e, two_suc i) (get_or_cells b i (omega arith))

-- ---- cells written as bytes and read again, and bytes of whole cells

pub cells_bytes : (c : List ℕ) → cells_of (bytes_of c) ≡ c
unfolding cells_of bytes_of
cells_bytes [] = refl
cells_bytes (x ∷ c) = ap₂ (λ (y : ℕ) (r : List ℕ). y ∷ r) (let e : x / 256 * 256 + x % 256 ≡ x = omega arith in e) (cells_bytes c)

pub whole_length : (b : List ℕ) → Whole b → length b ≡ 2 * length (cells_of b)
whole_length b w = sym (ap length w) ∙ length_bytes (cells_of b)

-- an even number of bytes
pub octets_whole : (b : List ℕ) → Octets b → length b % 2 ≡ 0 → Whole b
unfolding cells_of bytes_of
octets_whole [] o e = refl
octets_whole (high ∷ []) o e = absurd (omega arith)
octets_whole (high ∷ low ∷ b) o e =
    let h : high < 256 = o 0 (omega arith) in
    let l : low < 256 = o 1 (omega arith) in
    let d : (high * 256 + low) / 256 ≡ high = omega arith in
    let m : (high * 256 + low) % 256 ≡ low = omega arith in
    rw (d, m, octets_whole b (λ i k. o (suc (suc i)) (omega arith)) (omega arith)) refl

-- a length that is not odd
pub even_length : (b : List ℕ) → odd b ≡ false → length b % 2 ≡ 0
unfolding odd
even_length b e = let k : length b % 2 ≡ 1 → ⊥ = eqb-false (length b % 2) 1 e in omega arith

-- ---- cells stored as bytes

-- one cell
pub set_bytes : (c : List ℕ) (i x : ℕ) → set (set (bytes_of c) (2 * i) (x / 256)) (suc (2 * i)) (x % 256) ≡ bytes_of (set c i x)
unfolding bytes_of
set_bytes [] i x = refl
set_bytes (y ∷ c) zero x = refl
set_bytes (y ∷ c) (suc i) x = rw (two_suc i) (ap (λ (r : List ℕ). (y / 256) ∷ (y % 256) ∷ r) (set_bytes c i x))

-- a list of cells, stored from cell `at` on
pub sets_bytes : (c : List ℕ) (at : ℕ) (x : List ℕ) → sets (bytes_of c) (2 * at) (bytes_of x) ≡ bytes_of (sets c at x)
unfolding bytes_of
sets_bytes c at [] = refl
sets_bytes c at (y ∷ x) =
    ap (λ (s : List ℕ). sets s (suc (suc (2 * at))) (bytes_of x)) (set_bytes c at y)
    ∙ rw (two_suc at) at (sets_bytes (set c at y) (suc at) x)

pub put_bytes : (b : List ℕ) (at : ℕ) (x : List ℕ) → Whole b → sets b (2 * at) (bytes_of x) ≡ bytes_of (sets (cells_of b) at x)
put_bytes b at x w = ap (λ (s : List ℕ). sets s (2 * at) (bytes_of x)) (sym w) ∙ sets_bytes (cells_of b) at x

bytes_snoc : (s : List ℕ) (at : ℕ) (x : List ℕ) (i : ℕ) → i < length x
    → set (set (sets s at (bytes_of (take i x))) (at + 2 * i) (get_or x i 0 / 256)) (at + 2 * i + 1) (get_or x i 0 % 256) ≡ sets s at (bytes_of (take (suc i) x))
unfolding bytes_of
bytes_snoc s at [] i h = absurd (not-suc-le-zero h)
bytes_snoc s at (y ∷ x) zero h = rw (add-zero, add-one) refl
bytes_snoc s at (y ∷ x) (suc i) h =
    let e : at + 2 * suc i ≡ suc (suc at) + 2 * i = omega arith in
    rw e (bytes_snoc (set (set s at (y / 256)) (suc at) (y % 256)) (suc (suc at)) x i (le_of_suc-le-suc h))

-- for loops that store one cell after the other: s has the first i cells of x from byte `at` on, and the next goes to byte p
pub next_cell_lem : (s b : List ℕ) (at : ℕ) (x : List ℕ) (i p high low : ℕ) → b ≡ sets s at (bytes_of (take i x)) → i < length x
    → p ≡ at + 2 * i → high ≡ get_or x i 0 / 256 → low ≡ get_or x i 0 % 256 → set (set b p high) (p + 1) low ≡ sets s at (bytes_of (take (i + 1) x))
next_cell_lem s b at x i p high low eb h ep eh el = rw (eb, ep, eh, el, add-one i) (bytes_snoc s at x i h)

pub no_cell : (s : List ℕ) (at : ℕ) → s ≡ sets s at (bytes_of [])
unfolding bytes_of
no_cell s at = refl

-- ---- numbers read low byte first, and their bytes swapped

pub swapped_cells : (b y z : List ℕ) (n : ℕ) → Octets b → length b ≡ 2 * n → y ≡ tabulate (low_first b) n
    → z ≡ tabulate (λ i. swapped (get_or y i 0)) (length y) → z ≡ cells_of b
unfolding low_first swapped
swapped_cells b y z n o e ey ez =
    let size : length y ≡ n = ap length ey ∙ length_tabulate (low_first b) n in
    ez ∙ ap (tabulate (λ i. swapped (get_or y i 0))) size
    ∙ tabulate_cong (λ i. swapped (get_or y i 0)) (λ i. get_or (cells_of b) i 0) n
    (λ i h.
    let h0 : get_or b (2 * i) 0 < 256 = o (2 * i) (omega arith) in
    let high : get_or y i 0 % 256 ≡ get_or b (2 * i) 0 = omega (arith, ap (λ (l : List ℕ). get_or l i 0) ey ∙ get_d_tabulate (low_first b) n 0 i h) in
    let low : get_or y i 0 / 256 ≡ get_or b (2 * i + 1) 0 = omega (arith, ap (λ (l : List ℕ). get_or l i 0) ey ∙ get_d_tabulate (low_first b) n 0 i h) in
    rw (high, low) (sym (get_or_cells b i (omega arith))))
    ∙ sym (is_tabulate (cells_of b) n (λ i. get_or (cells_of b) i 0) (omega (arith, length_cells b)) (λ i h. refl))
