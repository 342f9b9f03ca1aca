-- A start that matters only if bits are taken: where none are, the cells and the stream are the same from any bit on. Assumes nothing.
use Prim.Native.Nat.{ℕ, ◌+◌, ◌*◌, ◌≤◌, ◌<◌}
use mathlib.Core.Path.{◌≡◌, refl, ap, ap₂, ◌∙◌}
use mathlib.Core.Bool.{Bool}
use mathlib.Core.List.{List, [], ◌∷◌}
use mathlib.Core.Logic.{by_cases}
use native.Mathlib.Decide.{dec_lt}
use native.Mathlib.Omega.{arith}
use lib.ListN.{length, take, drop}
use Rattle.rules.specs.Bits.{value, total, cell_bits, cells_from, stream_bits, with_bits, filled_from, unfilled_into}
use Rattle.bits.proofs.FillLaws.{length_bits}

no_bits : (bs : List Bool) → length bs ≡ 0 → bs ≡ []
no_bits [] e = refl
no_bits (b ∷ bs) e = absurd (omega arith)

-- cells of loads that add up to 0
no_cells : (ls : List ℕ) (bs bs' : List Bool) → total ls ≡ 0 → cells_from ls bs ≡ cells_from ls bs'
unfolding cells_from total
no_cells [] bs bs' e = refl
no_cells (l ∷ ls) bs bs' e =
    let z : l ≡ 0 = omega arith in
    ap₂ ◌∷◌ (ap (λ (k : ℕ). value (take k bs)) z ∙ ap (λ (k : ℕ). value (take k bs')) (let y : 0 ≡ l = omega arith in y)) (no_cells ls (drop l bs) (drop l bs') (omega arith))

module _ (ls : List ℕ) (start at : ℕ) (none : total ls ≡ 0 → at ≡ 0) (some : 0 < total ls → at ≡ start) where
  pub fill_start : (stream : List ℕ) → filled_from ls stream at ≡ filled_from ls stream start
  unfolding filled_from
  fill_start stream =
      by_cases (dec_lt 0 (total ls))
      (λ h. ap (λ (k : ℕ). cells_from ls (drop k (stream_bits stream))) (some h))
      (λ h. no_cells ls (drop at (stream_bits stream)) (drop start (stream_bits stream)) (omega arith))

  pub unfill_start : (xs stream : List ℕ) → length xs ≡ length ls → unfilled_into ls xs stream at ≡ unfilled_into ls xs stream start
  unfolding unfilled_into with_bits
  unfill_start xs stream e =
      by_cases (dec_lt 0 (total ls))
      (λ h. ap (λ (k : ℕ). with_bits stream k (cell_bits ls xs)) (some h))
      (λ h. let z : cell_bits ls xs ≡ [] = no_bits (cell_bits ls xs) (length_bits ls xs e ∙ (let y : total ls ≡ 0 = omega arith in y)) in rw z refl)

  -- the bits from there on are in a stream that has them
  pub start_fits : (n : ℕ) → (0 < total ls → start + total ls ≤ n * 8) → at + total ls ≤ n * 8
  start_fits n h =
      by_cases (dec_lt 0 (total ls))
      (λ l. omega (arith, some l, h l))
      (λ l. omega (arith, none (let y : total ls ≡ 0 = omega arith in y)))
