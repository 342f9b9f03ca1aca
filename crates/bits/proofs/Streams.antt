-- Parts of a stream in bytes: its bits from a byte on and up to a byte, a byte stored, and the number of the bits from a byte on. Assumes
-- nothing.
use Prim.Native.Nat.{ℕ, zero, suc, ◌+◌, ◌*◌, ◌%◌, ◌/◌, ◌^◌, ◌≤◌, ◌<◌}
use mathlib.Core.Path.{◌≡◌, refl, sym, ap, ap₂, ◌∙◌}
use mathlib.Core.Bool.{Bool}
use mathlib.Core.List.{List, [], ◌∷◌, ◌++◌, append_assoc}
use native.Mathlib.Nat.{zero-mod}
use native.Mathlib.Omega.{arith}
use lib.ListN.{length, get_or, take, drop, set, take-append-drop}
use lib.Seq.{sets, sets-eq, length-take-le, drop-cons, drop-nil, drop-drop, take_at, drop_at, set_split}
use Rattle.rules.specs.Bits.{digits, value, cell_bits, stream_bits}
use Rattle.bits.proofs.BitLaws.{length_digits, value-digits, value-take, value-drop}
use Rattle.bits.proofs.FillLaws.{length_stream}

pub stream_cons : (b : ℕ) (bytes : List ℕ) → stream_bits (b ∷ bytes) ≡ digits 8 b ++ stream_bits bytes
unfolding stream_bits cell_bits
stream_cons b bytes = refl

stream_none : stream_bits [] ≡ []
unfolding stream_bits cell_bits
stream_none = refl

pub stream_append : (xs ys : List ℕ) → stream_bits (xs ++ ys) ≡ stream_bits xs ++ stream_bits ys
stream_append [] ys = rw stream_none refl
stream_append (x ∷ xs) ys =
    stream_cons x (xs ++ ys)
    ∙ ap (λ (r : List Bool). digits 8 x ++ r) (stream_append xs ys)
    ∙ sym (append_assoc (digits 8 x) (stream_bits xs) (stream_bits ys))
    ∙ ap (λ (r : List Bool). r ++ stream_bits ys) (sym (stream_cons x xs))

-- ---- from a byte on, and up to a byte

-- past the first byte
drop_byte : (b : ℕ) (bytes : List ℕ) (k : ℕ) → drop (suc k * 8) (stream_bits (b ∷ bytes)) ≡ drop (k * 8) (stream_bits bytes)
drop_byte b bytes k =
    let n : suc k * 8 ≡ 8 + k * 8 = omega arith in
    rw (n, stream_cons, ← drop-drop (k * 8) 8 (digits 8 b ++ stream_bits bytes), drop_at (digits 8 b) (stream_bits bytes) 8 (length_digits 8 b)) refl

pub stream_drop : (k : ℕ) (bytes : List ℕ) → stream_bits (drop k bytes) ≡ drop (k * 8) (stream_bits bytes)
stream_drop zero bytes = refl
stream_drop (suc k) [] = stream_none ∙ sym (drop-nil (suc k * 8)) ∙ ap (drop (suc k * 8)) (sym stream_none)
stream_drop (suc k) (b ∷ bytes) = stream_drop k bytes ∙ sym (drop_byte b bytes k)

pub stream_take : (k : ℕ) (bytes : List ℕ) → k ≤ length bytes → stream_bits (take k bytes) ≡ take (k * 8) (stream_bits bytes)
stream_take k bytes h =
    let n : length (stream_bits (take k bytes)) ≡ k * 8 = length_stream (take k bytes) ∙ ap (λ (m : ℕ). m * 8) (length-take-le k bytes h) in
    sym (ap (take (k * 8)) (ap stream_bits (sym (take-append-drop k bytes)) ∙ stream_append (take k bytes) (drop k bytes))
    ∙ take_at (stream_bits (take k bytes)) (stream_bits (drop k bytes)) (k * 8) n)

-- the bits of a byte
pub byte_bits : (bytes : List ℕ) (k : ℕ) → k < length bytes → take 8 (drop (k * 8) (stream_bits bytes)) ≡ digits 8 (get_or bytes k 0)
byte_bits bytes k h =
    rw (← stream_drop k bytes, drop-cons bytes k 0 h, stream_cons) (take_at (digits 8 (get_or bytes k 0)) (stream_bits (drop (suc k) bytes)) 8 (length_digits 8 (get_or bytes k 0)))

-- a byte stored
pub stream_set : (bytes : List ℕ) (at x : ℕ) → at < length bytes → stream_bits (set bytes at x) ≡ sets (stream_bits bytes) (at * 8) (digits 8 x)
stream_set bytes at x h =
    let s : List Bool = stream_bits bytes in
    let n : length (digits 8 x) ≡ 8 = length_digits 8 x in
    let m : suc at * 8 ≡ at * 8 + length (digits 8 x) = omega arith in
    ap stream_bits (set_split bytes at x h)
    ∙ stream_append (take at bytes) (x ∷ drop (suc at) bytes)
    ∙ ap₂ ◌++◌ (stream_take at bytes (omega arith))
    (stream_cons x (drop (suc at) bytes) ∙ ap (λ (r : List Bool). digits 8 x ++ r) (stream_drop (suc at) bytes ∙ ap (λ (k : ℕ). drop k s) m))
    ∙ sym (append_assoc (take (at * 8) s) (digits 8 x) (drop (at * 8 + length (digits 8 x)) s))
    ∙ sym (sets-eq (digits 8 x) s (at * 8) (omega (arith, length_stream bytes)))

-- ---- as numbers

-- the bits of a byte make it; those past the end make 0
pub byte_value : (bytes : List ℕ) (k : ℕ) → value (take 8 (drop (k * 8) (stream_bits bytes))) ≡ get_or bytes k 0 % 256
unfolding value
byte_value [] k = rw (stream_none, drop-nil (k * 8)) (sym (zero-mod 256))
byte_value (b ∷ bytes) zero = rw (stream_cons, take_at (digits 8 b) (stream_bits bytes) 8 (length_digits 8 b)) (value-digits 8 b)
byte_value (b ∷ bytes) (suc k) = rw (drop_byte b bytes k) (byte_value bytes k)

-- the number of the bits from byte k on: that byte is the lowest
pub value_next : (bytes : List ℕ) (k : ℕ) → get_or bytes k 0 < 256 → value (drop (k * 8) (stream_bits bytes)) ≡ get_or bytes k 0 + 256 * value (drop ((k + 1) * 8) (stream_bits bytes))
value_next bytes k h =
    let s : List Bool = stream_bits bytes in
    let n : ℕ = value (drop (k * 8) s) in
    let m : (k + 1) * 8 ≡ k * 8 + 8 = omega arith in
    let low : n % 256 ≡ get_or bytes k 0 % 256 = sym (value-take 8 (drop (k * 8) s)) ∙ byte_value bytes k in
    let high : n / 256 ≡ value (drop ((k + 1) * 8) s) = sym (value-drop 8 (drop (k * 8) s)) ∙ ap value (drop-drop 8 (k * 8) s ∙ ap (λ (j : ℕ). drop j s) (sym m)) in
    omega arith

-- the 32 bits from byte k on
pub four_bytes : (bytes : List ℕ) (k : ℕ) → get_or bytes k 0 < 256 → get_or bytes (k + 1) 0 < 256 → get_or bytes (k + 2) 0 < 256 → get_or bytes (k + 3) 0 < 256
    → value (drop (k * 8) (stream_bits bytes)) % 2 ^ 32 ≡ get_or bytes k 0 + get_or bytes (k + 1) 0 * 256 + get_or bytes (k + 2) 0 * 65536 + get_or bytes (k + 3) 0 * 16777216
four_bytes bytes k h0 h1 h2 h3 =
    let e2 : k + 1 + 1 ≡ k + 2 = omega arith in
    let e3 : k + 2 + 1 ≡ k + 3 = omega arith in
    let v1 = rw e2 at (value_next bytes (k + 1) h1) in
    let v2 = rw e3 at (value_next bytes (k + 2) h2) in
    omega (arith, value_next bytes k h0, v1, v2, value_next bytes (k + 3) h3)

-- the 64 bits from byte k on
pub eight_bytes : (bytes : List ℕ) (k : ℕ) → let n = value (drop (k * 8) (stream_bits bytes)) in
    n % 2 ^ 64 ≡ n % 2 ^ 32 + value (drop ((k + 4) * 8) (stream_bits bytes)) % 2 ^ 32 * 2 ^ 32
eight_bytes bytes k =
    let s : List Bool = stream_bits bytes in
    let n : ℕ = value (drop (k * 8) s) in
    let m : (k + 4) * 8 ≡ k * 8 + 32 = omega arith in
    let high : value (drop ((k + 4) * 8) s) ≡ n / 2 ^ 32 = ap (λ (j : ℕ). value (drop j s)) m ∙ sym (ap value (drop-drop 32 (k * 8) s)) ∙ value-drop 32 (drop (k * 8) s) in
    rw high (omega arith)
