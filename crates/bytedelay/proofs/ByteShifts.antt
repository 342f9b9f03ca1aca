-- The bytes of a store that goes one place down. Assumes nothing.
use Prim.Native.Nat.{ℕ, zero, suc, ◌+◌, ◌*◌, ◌/◌, ◌%◌, ◌≤◌, ◌<◌}
use mathlib.Core.Path.{◌≡◌, refl, sym, ap, ◌∙◌}
use mathlib.Core.Logic.{by_cases}
use mathlib.Core.List.{List, [], ◌∷◌}
use native.Mathlib.Decide.{dec_lt, ℕ_discrete}
use native.Mathlib.Omega.{arith}
use lib.Dec.{ltb}
use lib.ListN.{length, get_or}
use lib.Seq.{ext_get_or}
use borrow.Author.Tests.{lt-ltb, le-ltb}
use Rattle.counting.specs.Search.{pick}
use Rattle.bytecells.specs.Octets.{cells_of, bytes_of, Whole}
use Rattle.bytecells.proofs.OctetLaws.{length_bytes, whole_length}
use Rattle.delay.specs.Shift.{shifted}
use Rattle.delay.proofs.Shifts.{next_in, next_out, length_shifted, get_or_shifted}

-- ---- the bytes of a cell

high_at : (c : List ℕ) (i : ℕ) → get_or (bytes_of c) (2 * i + 0) 0 ≡ get_or c i 0 / 256
unfolding bytes_of
high_at [] i = refl
high_at (x ∷ c) zero = refl
high_at (x ∷ c) (suc i) = let e : 2 * suc i + 0 ≡ suc (suc (2 * i + 0)) = omega arith in rw e (high_at c i)

low_at : (c : List ℕ) (i : ℕ) → get_or (bytes_of c) (2 * i + 1) 0 ≡ get_or c i 0 % 256
unfolding bytes_of
low_at [] i = refl
low_at (x ∷ c) zero = refl
low_at (x ∷ c) (suc i) = let e : 2 * suc i + 1 ≡ suc (suc (2 * i + 1)) = omega arith in rw e (low_at c i)

-- ---- the shift

-- byte q after the shift of n cells
unfoldable pub next_byte : ℕ → List ℕ → ℕ → ℕ
next_byte n s q = pick (ltb (q + 2) (2 * n)) (get_or s (q + 2) 0) (get_or s q 0)

pub byte_in : (n : ℕ) (s : List ℕ) (q : ℕ) → q + 2 < 2 * n → next_byte n s q ≡ get_or s (q + 2) 0
unfolding next_byte
byte_in n s q h = rw (lt-ltb (q + 2) (2 * n) h) refl

byte_out : (n : ℕ) (s : List ℕ) (q : ℕ) → 2 * n ≤ q + 2 → next_byte n s q ≡ get_or s q 0
unfolding next_byte
byte_out n s q h = rw (le-ltb (q + 2) (2 * n) h) refl

-- byte j of cell i, f of the cell
module _ (n : ℕ) (c : List ℕ) (j : ℕ) (f : ℕ → ℕ) (small : j < 2) (at : (c : List ℕ) (i : ℕ) → get_or (bytes_of c) (2 * i + j) 0 ≡ f (get_or c i 0)) where
  one_next : (i : ℕ) → i < length c → next_byte n (bytes_of c) (2 * i + j) ≡ get_or (bytes_of (shifted n c)) (2 * i + j) 0
  one_next i h =
      by_cases (dec_lt (i + 1) n)
      (λ l.
      let e : 2 * i + j + 2 ≡ 2 * (i + 1) + j = omega arith in
      byte_in n (bytes_of c) (2 * i + j) (omega arith) ∙ rw e (at c (i + 1)) ∙ ap f (sym (get_or_shifted n c i h ∙ next_in n c i l)) ∙ sym (at (shifted n c) i))
      (λ l. byte_out n (bytes_of c) (2 * i + j) (omega arith) ∙ at c i ∙ ap f (sym (get_or_shifted n c i h ∙ next_out n c i (omega arith))) ∙ sym (at (shifted n c) i))

any_next : (n : ℕ) (c : List ℕ) (q : ℕ) → q < 2 * length c → next_byte n (bytes_of c) q ≡ get_or (bytes_of (shifted n c)) q 0
any_next n c q h =
    by_cases (ℕ_discrete (q % 2) 0)
    (λ z. let e : q ≡ 2 * (q / 2) + 0 = omega arith in rw e (one_next n c 0 (λ x. x / 256) (omega arith) high_at (q / 2) (omega arith)))
    (λ z. let e : q ≡ 2 * (q / 2) + 1 = omega arith in rw e (one_next n c 1 (λ x. x % 256) (omega arith) low_at (q / 2) (omega arith)))

-- bytes that were copied two places down
pub next_all : (n : ℕ) (s l : List ℕ) → Whole s → length l ≡ length s
    → ((q : ℕ) → q + 2 < 2 * n → get_or l q 0 ≡ get_or s (q + 2) 0) → ((q : ℕ) → 2 * n ≤ q + 2 → get_or l q 0 ≡ get_or s q 0) → l ≡ bytes_of (shifted n (cells_of s))
next_all n s l w e moved kept =
    ext_get_or 0 l (bytes_of (shifted n (cells_of s)))
    (e ∙ whole_length s w ∙ sym (length_bytes (shifted n (cells_of s)) ∙ ap (λ (x : ℕ). 2 * x) (length_shifted n (cells_of s))))
    (λ q hq.
    by_cases (dec_lt (q + 2) (2 * n)) (λ c. moved q c ∙ sym (byte_in n s q c)) (λ c. kept q (omega arith) ∙ sym (byte_out n s q (omega arith)))
    ∙ ap (λ (b : List ℕ). next_byte n b q) (sym w) ∙ any_next n (cells_of s) q (omega (arith, whole_length s w)))
