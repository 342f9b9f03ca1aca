-- A byte and a stream with one bit put anew. Assumes nothing.
use Prim.Native.Nat.{ℕ, ◌+◌, ◌-◌, ◌*◌, ◌%◌, ◌/◌, ◌^◌, ◌≤◌, ◌<◌}
use mathlib.Core.Path.{◌≡◌, sym, ap, ap₂, ◌∙◌}
use mathlib.Core.Bool.{Bool}
use mathlib.Core.List.{List, ◌++◌, append_assoc}
use native.Mathlib.Nat.{mod-lt}
use native.Mathlib.Omega.{arith}
use lib.Pow.{pow_pos, shr-shr}
use lib.ListN.{length, get_or, take, drop, set, take-append-drop}
use lib.Seq.{sets, sets-eq, length-sets, take-add, take-take, take_at, drop_at, drop-append-le, drop-drop}
use Rattle.rules.specs.Bits.{digits, stream_bits}
use Rattle.bits.proofs.BitLaws.{length_digits, digits_mod, digits_split, digits_join}
use Rattle.bits.proofs.FillLaws.{length_stream}
use Rattle.bits.proofs.Streams.{stream_set, byte_bits}

-- ---- a byte

-- the eight bits of x, with the lowest bit of y as bit o: the bits above it, it, and the bits below it
pub with_bit : (x o y : ℕ) → o < 8 → digits 8 ((x / 2 ^ o / 2 * 2 + y % 2) * 2 ^ o + x % 2 ^ o) ≡ sets (digits 8 x) o (digits 1 y)
with_bit x o y h =
    let q : ℕ = x / 2 ^ o / 2 in
    let n : ◌≡◌ {A = ℕ} 8 (o + (8 - o)) = omega arith in
    let m : 8 - o ≡ 1 + (7 - o) = omega arith in
    let k : ◌≡◌ {A = ℕ} 8 (o + 1 + (7 - o)) = omega arith in
    let low : take o (digits 8 x) ≡ digits o x = rw n (ap (take o) (digits_split o (8 - o) x) ∙ take_at (digits o x) _ o (length_digits o x)) in
    let high : drop (o + 1) (digits 8 x) ≡ digits (7 - o) q =
    rw k (ap (drop (o + 1)) (digits_split (o + 1) (7 - o) x) ∙ drop_at (digits (o + 1) x) _ (o + 1) (length_digits (o + 1) x)) ∙ ap (digits (7 - o)) (sym (shr-shr x o 1)) in
    ap (λ (j : ℕ). digits j ((q * 2 + y % 2) * 2 ^ o + x % 2 ^ o)) n
    ∙ digits_join o (8 - o) (x % 2 ^ o) (q * 2 + y % 2) (mod-lt x (pow_pos o))
    ∙ ap₂ ◌++◌ (digits_mod o x) (ap (λ (j : ℕ). digits j (q * 2 + y % 2)) m ∙ digits_join 1 (7 - o) (y % 2) q (mod-lt y (omega arith)) ∙ ap (λ (r : List Bool). r ++ digits (7 - o) q) (digits_mod 1 y))
    ∙ sym (append_assoc (digits o x) (digits 1 y) (digits (7 - o) q))
    ∙ ap₂ (λ (a b : List Bool). a ++ digits 1 y ++ b) (sym low) (sym high)
    ∙ ap (λ (j : ℕ). take o (digits 8 x) ++ digits 1 y ++ drop (o + j) (digits 8 x)) (sym (length_digits 1 y))
    ∙ sym (sets-eq (digits 1 y) (digits 8 x) o (omega (arith, length_digits 1 y, length_digits 8 x)))

-- ---- a stream

-- some of a part put anew
sets_part : (s t bs : List Bool) (a o n : ℕ) → a + n ≤ length s → o + length bs ≤ n → t ≡ take n (drop a s) → length t ≡ n → sets s a (sets t o bs) ≡ sets s (a + o) bs
sets_part s t bs a o n h k e m =
    let j : length (sets t o bs) ≡ n = length-sets t o bs ∙ m in
    let low : take o t ≡ take o (drop a s) = ap (take o) e ∙ take-take o n (drop a s) (omega arith) in
    let high : drop (o + length bs) t ++ drop (a + n) s ≡ drop (a + o + length bs) s =
    ap (λ (r : List Bool). drop (o + length bs) t ++ r) (sym (drop-drop n a s))
    ∙ sym (drop-append-le (o + length bs) t (drop n (drop a s)) (omega arith))
    ∙ ap (λ (r : List Bool). drop (o + length bs) (r ++ drop n (drop a s))) e
    ∙ ap (drop (o + length bs)) (take-append-drop n (drop a s))
    ∙ drop-drop (o + length bs) a s
    ∙ ap (λ (i : ℕ). drop i s) (let z : a + (o + length bs) ≡ a + o + length bs = omega arith in z) in
    sets-eq (sets t o bs) s a (omega arith)
    ∙ ap₂ (λ (r : List Bool) (i : ℕ). take a s ++ r ++ drop (a + i) s) (sets-eq bs t o (omega arith)) j
    ∙ append_assoc (take a s) (take o t ++ bs ++ drop (o + length bs) t) (drop (a + n) s)
    ∙ ap (λ (r : List Bool). take a s ++ r) (append_assoc (take o t ++ bs) (drop (o + length bs) t) (drop (a + n) s) ∙ ap₂ (λ (u v : List Bool). (u ++ bs) ++ v) low high)
    ∙ ap (λ (r : List Bool). take a s ++ r) (append_assoc (take o (drop a s)) bs (drop (a + o + length bs) s))
    ∙ sym (append_assoc (take a s) (take o (drop a s)) (bs ++ drop (a + o + length bs) s))
    ∙ ap (λ (r : List Bool). r ++ (bs ++ drop (a + o + length bs) s)) (sym (take-add a o s))
    ∙ sym (append_assoc (take (a + o) s) bs (drop (a + o + length bs) s))
    ∙ sym (sets-eq bs s (a + o) (omega arith))

-- a byte stored that differs in some bits
pub stream_part : (bytes : List ℕ) (at o x : ℕ) (bs : List Bool) → at < length bytes → o + length bs ≤ 8 → digits 8 x ≡ sets (digits 8 (get_or bytes at 0)) o bs
    → stream_bits (set bytes at x) ≡ sets (stream_bits bytes) (at * 8 + o) bs
stream_part bytes at o x bs h k e =
    stream_set bytes at x h
    ∙ ap (sets (stream_bits bytes) (at * 8)) e
    ∙ sets_part (stream_bits bytes) (digits 8 (get_or bytes at 0)) bs (at * 8) o 8 (omega (arith, length_stream bytes)) k (sym (byte_bits bytes at h)) (length_digits 8 (get_or bytes at 0))
