-- Bytes of whole cells, and one cell of them put. Assumes nothing.
use Prim.Native.Nat.{ℕ, suc, ◌+◌, ◌*◌, ◌/◌, ◌%◌}
use mathlib.Core.Path.{◌≡◌, sym, ap, ◌∙◌}
use mathlib.Core.List.{List}
use native.Mathlib.Omega.{arith}
use lib.ListN.{length, set, length-set}
use Rattle.bytecells.specs.Octets.{cells_of, bytes_of, Whole}
use Rattle.bytecells.proofs.OctetLaws.{whole_length, set_bytes, cells_bytes}

-- the bytes of cells are whole
pub bytes_whole : (c : List ℕ) → Whole (bytes_of c)
bytes_whole c = ap bytes_of (cells_bytes c)

pub put_cell : (b : List ℕ) (i x : ℕ) → Whole b → set (set b (2 * i) (x / 256)) (2 * i + 1) (x % 256) ≡ bytes_of (set (cells_of b) i x)
put_cell b i x w =
    let e : 2 * i + 1 ≡ suc (2 * i) = omega arith in
    rw e (ap (λ (y : List ℕ). set (set y (2 * i) (x / 256)) (suc (2 * i)) (x % 256)) (sym w) ∙ set_bytes (cells_of b) i x)

-- bytes of whole cells are as many as others, if their cells are
pub same_bytes : (b y : List ℕ) → Whole b → Whole y → length (cells_of y) ≡ length (cells_of b) → length y ≡ length b
same_bytes b y w v e = whole_length y v ∙ ap (λ (k : ℕ). 2 * k) e ∙ sym (whole_length b w)

-- bytes that are those of some cells
pub read_back : (y c : List ℕ) → y ≡ bytes_of c → (cells_of y ≡ c) × Whole y
read_back y c e = (ap cells_of e ∙ cells_bytes c, rw e (bytes_whole c))

-- one cell put changes no length
pub put_length : (b y : List ℕ) (i v : ℕ) → Whole b → y ≡ bytes_of (set (cells_of b) i v) → length y ≡ length b
put_length b y i v w e =
    let r = read_back y (set (cells_of b) i v) e in
    same_bytes b y w r.1 (ap length r.0 ∙ length-set (cells_of b) i v)
