-- Searches that find nothing, and searches that find something. Assumes nothing.
use Prim.Native.Nat.{ℕ, zero, suc, ◌<◌}
use mathlib.Core.Path.{◌≡◌, refl, sym, ap, ◌∙◌}
use mathlib.Core.Logic.{◌⊎◌, inl, inr}
use mathlib.Core.Bool.{Bool, true, false, ◌&&◌, true≢false}
use Rattle.std.specs.Prelude.{Option, Some, None, unwrap_or}
use native.Mathlib.Nat.{not-suc-le-zero, le-suc, le_refl, le_trans}
use native.Mathlib.Omega.{arith}
use Rattle.counting.specs.Search.{when, or_else, first, highest, is_none}
use Rattle.counting.proofs.Bools.{and_left, and_right, by_test}
use Rattle.counting.proofs.Laws.{below_suc}

none_or : (a b : Option ℕ) → is_none (or_else a b) ≡ (is_none a && is_none b)
none_or None b = refl
none_or (Some k) b = refl

-- what a test says where k is not found, and where it is
pub when_none : (b : Bool) (k : ℕ) → is_none (when b k) ≡ true → b ≡ false
when_none true k e = sym e
when_none false k e = refl

pub when_some : (b : Bool) (k : ℕ) → is_none (when b k) ≡ false → b ≡ true
when_some true k e = refl
when_some false k e = sym e

-- where nothing is found below n, nothing is found at k
pub first_passed : (f : ℕ → Option ℕ) (n k : ℕ) → k < n → is_none (first f n) ≡ true → is_none (f k) ≡ true
unfolding first
first_passed f zero k l e = absurd (not-suc-le-zero l)
first_passed f (suc n) k l e =
    let both : (is_none (first f n) && is_none (f n)) ≡ true = sym (none_or (first f n) (f n)) ∙ e in
    go both (below_suc l) (λ m. first_passed f n k m (and_left _ _ both))
  where
    go : (is_none (first f n) && is_none (f n)) ≡ true → (k ≡ n) ⊎ (k < n) → (k < n → is_none (f k) ≡ true) → is_none (f k) ≡ true
    go both (inl r) ih = ap (λ (x : ℕ). is_none (f x)) r ∙ and_right (is_none (first f n)) (is_none (f n)) both
    go both (inr m) ih = ih m

-- where something is found below n, it is found at some k
pub first_found : (f : ℕ → Option ℕ) (n : ℕ) → is_none (first f n) ≡ false → (k : ℕ) × (k < n) × (is_none (f k) ≡ false)
unfolding first
first_found f zero e = absurd (true≢false e)
first_found f (suc n) e =
    by_test (is_none (first f n))
    (λ q. (n, le_refl (suc n), sym (ap (λ (b : Bool). b && is_none (f n)) q) ∙ sym (none_or (first f n) (f n)) ∙ e))
    (λ q. let r = first_found f n q in (r.0, le_trans r.1 (le-suc n), r.2))

-- what is found highest passes
pub highest_passes : (t : ℕ → Bool) (n : ℕ) → 0 < unwrap_or (highest t n) 0 → t (unwrap_or (highest t n) 0) ≡ true
unfolding highest
highest_passes t zero l = absurd (omega arith)
highest_passes t (suc n) l = go (t n) refl (highest_passes t n) l
  where
    found : Bool → ℕ
    found b = unwrap_or (let r = highest t n in or_else (when b n) r) 0

    go : (b : Bool) → t n ≡ b → (0 < unwrap_or (highest t n) 0 → t (unwrap_or (highest t n) 0) ≡ true) → 0 < found b → t (found b) ≡ true
    go true e ih l = e
    go false e ih l = ih l
