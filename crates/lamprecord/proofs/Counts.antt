-- Capped counts: one more, and compared. Assumes nothing.
use Prim.Native.Nat.{ℕ, suc, ◌+◌, ◌≤◌, ◌<◌}
use mathlib.Core.Path.{◌≡◌, refl, sym, ◌∙◌}
use mathlib.Core.Logic.{by_cases}
use mathlib.Core.Bool.{◌&&◌, ◌||◌}
use native.Mathlib.Decide.{dec_lt, ℕ_discrete}
use native.Mathlib.Omega.{arith}
use lib.Dec.{leb, ltb, eqb}
use borrow.Author.Tests.{lt-ltb, le-ltb, le-leb, lt-leb, eq-eqb, ne_eqb}
use Rattle.counting.proofs.Bools.{and_false, or_true}
use Rattle.lamprecord.specs.Record.{capped}

module _ (cap : ℕ) where
  pub capped_low : (n : ℕ) → n ≤ cap → capped cap n ≡ n
  unfolding capped
  capped_low n h = omega arith

  pub capped_high : (n : ℕ) → cap ≤ n → capped cap n ≡ cap
  unfolding capped
  capped_high n h = omega arith

  pub capped_le : (n : ℕ) → capped cap n ≤ cap
  unfolding capped
  capped_le n = omega arith

  pub capped_mono : (a b : ℕ) → a ≤ b → capped cap a ≤ capped cap b
  unfolding capped
  capped_mono a b h = omega arith

  -- one more of a capped count
  pub capped_suc : (n : ℕ) → capped cap (capped cap n + 1) ≡ capped cap (suc n)
  unfolding capped
  capped_suc n = omega arith

  -- a capped count equals that of all: it is as large, or reaches the cap
  pub covers : 0 < cap → (r l : ℕ) → r ≤ l → (ltb 0 (capped cap l) && eqb (capped cap r) (capped cap l)) ≡ (ltb 0 l && (leb cap r || leb l r))
  covers pos r l h =
      by_cases (dec_lt 0 l)
      (λ some.
      by_cases (dec_lt r cap)
      (λ small.
      by_cases (ℕ_discrete r l)
      (λ e. let low : l ≤ cap = omega arith in rw (e, capped_low l low, lt-ltb 0 l some, eq-eqb l l refl, le-leb l l (omega arith)) (sym (or_true (leb cap l))))
      (λ ne.
      rw (ne_eqb (capped cap r) (capped cap l) (differ small ne), lt-leb cap r small, lt-leb l r (omega arith), lt-ltb 0 l some) (and_false (ltb 0 (capped cap l)))))
      (λ large.
      rw (capped_high r (omega arith), capped_high l (omega arith), le-leb cap r (omega arith), lt-ltb 0 l some, lt-ltb 0 cap pos, eq-eqb cap cap refl) refl))
      (λ none. let z : l ≡ 0 = omega arith in rw (z, capped_low 0 (omega arith), le-ltb 0 0 (omega arith)) refl)
    where
      differ : r < cap → (r ≡ l → ⊥) → capped cap r ≡ capped cap l → ⊥
      differ small ne z =
          by_cases (dec_lt l cap)
          (λ q. ne (sym (capped_low r (omega arith)) ∙ z ∙ capped_low l (omega arith)))
          (λ q. omega (arith, capped_low r (omega arith), z, capped_high l (omega arith)))
