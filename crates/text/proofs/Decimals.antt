-- The text of a number is its fewest digits, as the kit's `digits` has them, and a u32 has up to ten. Assumes nothing.
use mathlib.Core.Path.{◌≡◌, sym, ap, ap₂, ◌∙◌}
use mathlib.Core.Logic.{by_cases}
use mathlib.Core.Bool.{Bool, true, false, cond}
use mathlib.Core.List.{List, [], ◌∷◌, ◌++◌}
use Prim.Native.Nat.{ℕ, zero, suc, ◌+◌, ◌*◌, ◌/◌, ◌%◌, ◌^◌, ◌≤◌, ◌<◌, zero-le}
use native.Mathlib.Nat.{pow-suc, mod-lt, mod-eq_of_lt, one-le-pow, not-suc-le-zero}
use native.Mathlib.Decide.{dec_lt}
use native.Mathlib.Numerals.{unary_clauses}
use native.Mathlib.Omega.{arith}
use borrow.Author.Tests.{lt-ltb, le-ltb}
use lib.ListN.{length, length-append}
use mir.Syntax.{w32}
use mir.Val.{Fits}
use Rattle.io.specs.Digits.{hex_digit_ascii, last_digits, IsDigitCount}
use Rattle.text.specs.Text.{spelled, decimal}

-- the last digit of n
last : (n : ℕ) → hex_digit_ascii (n % 10) ≡ 48 + n % 10
last n = ap (λ (b : Bool). cond b (48 + n % 10) (87 + n % 10)) (lt-ltb (n % 10) 10 (mod-lt n (omega arith)))

-- the text of one digit, and of more
module _ (steps n : ℕ) where
  both : Bool → List ℕ
  both b = elim b [ true ↦ (48 + n) ∷ [] | false ↦ spelled steps (n / 10) ++ ((48 + n % 10) ∷ []) ]

  spelled_one : n < 10 → spelled (suc steps) n ≡ (48 + n) ∷ []
  unfolding both spelled
  spelled_one h = ap both (lt-ltb n 10 h)

  spelled_more : 10 ≤ n → spelled (suc steps) n ≡ spelled steps (n / 10) ++ ((48 + n % 10) ∷ [])
  unfolding both spelled
  spelled_more h = ap both (le-ltb n 10 h)

-- The digits of n, where they are the fewest, are its text, where the steps are enough.
digits_spelled : (k steps n : ℕ) → n < steps → n < 10 ^ suc k → (0 < k → 10 ^ k ≤ n) → last_digits 10 (suc k) n ≡ spelled steps n
digits_spelled k zero n l high low = absurd (not-suc-le-zero l)
digits_spelled zero (suc steps) n l high low =
    ap (λ (x : ℕ). x ∷ []) (last n ∙ ap (λ (x : ℕ). 48 + x) (mod-eq_of_lt high)) ∙ sym (spelled_one steps n high)
digits_spelled (suc k) (suc steps) n l high low =
    let p : 10 ^ suc k ≡ 10 ^ k * 10 = pow-suc 10 k in
    let q : 10 ^ suc (suc k) ≡ 10 ^ suc k * 10 = pow-suc 10 (suc k) in
    let some : 1 ≤ 10 ^ k = one-le-pow k 10 (omega arith) in
    let least : 10 ^ suc k ≤ n = low (omega arith) in
    ap₂ (λ (xs : List ℕ) (x : ℕ). xs ++ (x ∷ [])) (digits_spelled k steps (n / 10) (omega arith) (omega arith) (λ _. omega arith)) (last n)
    ∙ sym (spelled_more steps n (omega arith))

-- the fewest digits of n are its text
pub fewest_decimal : (n k : ℕ) → IsDigitCount 10 1 n k → last_digits 10 k n ≡ decimal n
unfolding decimal
fewest_decimal n zero f = absurd (not-suc-le-zero f.0)
fewest_decimal n (suc k) f = digits_spelled k (suc n) n (omega arith) f.1 (λ l. simp unary_clauses at (f.2 (omega arith)))

-- the text of a number below a power of ten is no longer than that power's exponent
spelled_short : (k steps n : ℕ) → n < 10 ^ suc k → length (spelled steps n) ≤ suc k
unfolding spelled
spelled_short k zero n h = zero-le
spelled_short zero (suc steps) n h = rw (spelled_one steps n h) (omega arith)
spelled_short (suc k) (suc steps) n h =
    let q : 10 ^ suc (suc k) ≡ 10 ^ suc k * 10 = pow-suc 10 (suc k) in
    by_cases (dec_lt n 10)
    (λ l. rw (spelled_one steps n l) (omega arith))
    (λ l. rw (spelled_more steps n (omega arith), length-append) (omega (arith, spelled_short k steps (n / 10) (omega arith))))

-- a u32 has up to ten digits
pub decimal_short : (n : ℕ) → Fits w32 n → length (decimal n) ≤ 10
unfolding decimal
decimal_short n h = spelled_short 9 (suc n) n (omega arith)
