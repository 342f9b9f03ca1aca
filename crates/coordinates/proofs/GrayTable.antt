-- Rows of Gray values, each made from the one before. Assumes nothing.
use Prim.Native.Nat.{ℕ, zero, suc, ◌+◌, ◌-◌, ◌*◌, ◌/◌, ◌%◌, ◌^◌, ◌<◌, ◌≤◌}
use mathlib.Core.Path.{◌≡◌, refl, sym, ap, ◌∙◌}
use mathlib.Core.List.{List}
use mathlib.Core.Logic.{by_cases}
use native.Mathlib.Omega.{arith}
use native.Mathlib.Decide.{dec_lt, ℕ_discrete}
use native.Mathlib.Nat.{pow-suc}
use lib.IntN.{ℤ, pos, neg_ℤ, ◌+ℤ◌, ◌-ℤ◌}
use lib.ListN.{length, get_or, set, length-set}
use lib.Seq.{get_or-set_same, get_or-set_other}
use lib.Pow.{pow_mono}
use mir.Syntax.{w32}
use mir.Val.{SFits, to_z, of_z}
use mir.ValLaws.{to_z-of_z, to_z_pos}
use borrow.Author.Tests.{eq-eqb, ne_eqb}
use Rattle.gray.specs.Gray.{gray}
use Rattle.gray.proofs.Signs.{minus}
use Rattle.gray.proofs.GrayLaws.{small_power}
use Rattle.points.proofs.Machine.{gray_fits}
use Rattle.coordinates.specs.Table.{GrayRows}

-- ---- one bit more

gray_even : (n i : ℕ) → gray (suc n) (2 * i) ≡ pos (2 ^ n) +ℤ gray n i
unfolding gray
gray_even n i =
    let e : 2 * i % 2 ≡ 0 = omega arith in
    let h : 2 * i / 2 ≡ i = omega arith in
    rw (eq-eqb (2 * i % 2) 0 e, h) refl

gray_odd : (n i : ℕ) → gray (suc n) (2 * i + 1) ≡ neg_ℤ (gray (suc n) (2 * i))
unfolding gray
gray_odd n i =
    let e : (2 * i + 1) % 2 ≡ 1 = omega arith in
    let h : (2 * i + 1) / 2 ≡ i = omega arith in
    rw (ne_eqb ((2 * i + 1) % 2) 0 (λ z. omega arith), h) (ap neg_ℤ (sym (gray_even n i)))

-- as the machine makes them, each number through its bits
module _ (n p i : ℕ) (few : n < 7) (power : p ≡ 2 ^ n) (z : ℤ) (value : z ≡ gray n i) where
  sum : to_z w32 p +ℤ to_z w32 (of_z w32 z) ≡ gray (suc n) (2 * i)
  sum =
      rw (power, value, to_z_pos w32 (2 ^ n) (omega (arith, small_power n (omega arith))), to_z-of_z w32 (gray n i) (gray_fits n i (omega arith)))
      (sym (gray_even n i))

  pub sum_fits : SFits w32 (to_z w32 p +ℤ to_z w32 (of_z w32 z))
  sum_fits = rw sum (gray_fits (suc n) (2 * i) few)

  pub sum_is : to_z w32 (of_z w32 (to_z w32 p +ℤ to_z w32 (of_z w32 z))) ≡ gray (suc n) (2 * i)
  sum_is = to_z-of_z w32 _ sum_fits ∙ sum

  less : pos 0 -ℤ to_z w32 (of_z w32 (to_z w32 p +ℤ to_z w32 (of_z w32 z))) ≡ gray (suc n) (2 * i + 1)
  less = minus (to_z w32 (of_z w32 (to_z w32 p +ℤ to_z w32 (of_z w32 z)))) ∙ ap neg_ℤ sum_is ∙ sym (gray_odd n i)

  pub less_fits : SFits w32 (pos 0 -ℤ to_z w32 (of_z w32 (to_z w32 p +ℤ to_z w32 (of_z w32 z))))
  less_fits = rw less (gray_fits (suc n) (2 * i + 1) few)

  pub less_is : to_z w32 (of_z w32 (pos 0 -ℤ to_z w32 (of_z w32 (to_z w32 p +ℤ to_z w32 (of_z w32 z))))) ≡ gray (suc n) (2 * i + 1)
  less_is = to_z-of_z w32 _ less_fits ∙ less

-- ---- the first row, and the row of n + 1 bits

pub first_row : (w : List ℤ) → 1 < length w → GrayRows 1 (set w 1 (pos 0))
unfolding gray
first_row w l zero h i g = let z : i ≡ 0 = omega arith in rw z (get_or-set_same w 1 (pos 0) (pos 0) l)
first_row w l (suc n) h i g = absurd (omega arith)

-- all values of n + 1 bits below number 2k
pub record Doubled (n : ℕ) (w : List ℤ) (k : ℕ) : Type 0 where
  pub long : length w ≡ 256
  pub from : 2 ^ n ≤ k
  pub rows : GrayRows (suc n) w
  pub next : (i : ℕ) → 2 ^ suc n + i < 2 * k → get_or w (2 ^ suc n + i) (pos 0) ≡ gray (suc n) i

module _ (n : ℕ) (w : List ℤ) where
  module _ (k : ℕ) (d : Doubled n w k) (h : k < 2 * 2 ^ n) where
    -- the value of n bits that both are made from
    pub source : get_or w k (pos 0) ≡ gray n (k - 2 ^ n)
    source =
        let e : 2 ^ n + (k - 2 ^ n) ≡ k = omega (arith, d.from) in
        ap (λ (j : ℕ). get_or w j (pos 0)) (sym e) ∙ d.rows n (omega arith) (k - 2 ^ n) (omega arith)

    -- the two values that are made from it
    pub doubled_next : (a b : ℤ) → a ≡ gray (suc n) (2 * (k - 2 ^ n)) → b ≡ gray (suc n) (2 * (k - 2 ^ n) + 1) → 2 * k + 1 < 256
        → Doubled n (set (set w (2 * k) a) (2 * k + 1) b) (k + 1)
    doubled_next a b ea eb room =
        let s = pow-suc 2 n in
        let y = set w (2 * k) a in
        let from = d.from in
        let ly : length y ≡ 256 = length-set w (2 * k) a ∙ d.long in
        let other : (j : ℕ) → j < 2 * k → get_or (set y (2 * k + 1) b) j (pos 0) ≡ get_or w j (pos 0) =
        λ j l. get_or-set_other y (2 * k + 1) j b (pos 0) (λ e. omega arith) ∙ get_or-set_other w (2 * k) j a (pos 0) (λ e. omega arith) in
        record {
          long = length-set y (2 * k + 1) b ∙ ly;
          from = omega arith;
          rows = λ m lm i li. other (2 ^ m + i) (omega (arith, pow-suc 2 m, pow_mono lm)) ∙ d.rows m lm i li;
          next = λ i l. by_cases (dec_lt (2 ^ suc n + i) (2 * k))
              (λ c. other (2 ^ suc n + i) c ∙ d.next i c)
              (λ c. by_cases (ℕ_discrete (2 ^ suc n + i) (2 * k))
              (λ e.
              let z : i ≡ 2 * (k - 2 ^ n) = omega arith in
              rw e (get_or-set_other y (2 * k + 1) (2 * k) b (pos 0) (λ e. omega arith) ∙ get_or-set_same w (2 * k) a (pos 0) (omega (arith, d.long)) ∙ ea ∙ ap (gray (suc n)) (sym z)))
              (λ f.
              let e : 2 ^ suc n + i ≡ 2 * k + 1 = omega arith in
              let z : i ≡ 2 * (k - 2 ^ n) + 1 = omega arith in
              rw e (get_or-set_same y (2 * k + 1) b (pos 0) (omega arith) ∙ eb ∙ ap (gray (suc n)) (sym z))));
        }
