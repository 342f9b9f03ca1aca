-- The numbers of a row as the machine makes them: a Gray value that is read, the cross rule, and sizes that a single holds. Assumes nothing.
use Prim.Native.Nat.{ℕ, ◌+◌, ◌-◌, ◌*◌, ◌^◌, ◌<◌, ◌≤◌}
use mathlib.Core.Path.{◌≡◌, ap, ◌∙◌}
use mathlib.Core.List.{List}
use mathlib.Core.Logic.{by_cases}
use native.Mathlib.Omega.{arith}
use native.Mathlib.Decide.{dec_lt}
use native.Mathlib.Numerals.{add-one}
use native.Mathlib.Nat.{pow-suc}
use lib.Pow.{pow_mono}
use lib.IntN.{ℤ, pos, nat_abs}
use lib.ListN.{get_or}
use mir.Syntax.{w32}
use mir.Val.{to_z, of_z}
use Rattle.gray.specs.Gray.{gray}
use Rattle.gray.proofs.GrayLaws.{gray_in, small_power}
use Rattle.points.specs.Points.{cross}
use Rattle.points.proofs.PointLaws.{twice}
use Rattle.points.proofs.CrossLaws.{nat_abs_signed, stays, side, over}
use Rattle.points.proofs.Machine.{through, gray_fits}
use Rattle.coordinates.specs.Table.{GrayRows}

-- ---- a Gray value that is read

module _ (w : List ℤ) (rows : GrayRows 8 w) (bits p k : ℕ) (few : bits ≤ 7) (power : p ≡ 2 ^ bits) (inside : k < p) where
  pub read : to_z w32 (of_z w32 (get_or w (p + k) (pos 0))) ≡ gray bits k
  read = through (gray_fits bits k few) (ap (λ (n : ℕ). get_or w (n + k) (pos 0)) power ∙ rows bits (omega arith) k (omega arith))

  pub read_small : nat_abs (to_z w32 (of_z w32 (get_or w (p + k) (pos 0)))) < 128
  read_small = rw read (omega (arith, gray_in bits k, small_power bits few))

-- ---- the cross rule: no coordinate is above 127

module _ (s : ℕ) (small : s ≤ 32) (i q : ℤ) (in-i : nat_abs i < 4 * s) (in-q : nat_abs q < 2 * s) where
  pub small_x : nat_abs (cross s i q).x < 128
  small_x =
      by_cases (dec_lt (nat_abs i) (3 * s)) (λ l. rw (stays s i q l) (omega arith))
      (λ n.
      let f : 3 * s ≤ nat_abs i = omega arith in
      by_cases (dec_lt s (nat_abs q))
      (λ g. rw (side s i q f g, nat_abs_signed) (omega arith))
      (λ h. let g : nat_abs q ≤ s = omega arith in rw (over s i q f g, nat_abs_signed) (omega arith)))

  pub small_y : nat_abs (cross s i q).y < 128
  small_y =
      by_cases (dec_lt (nat_abs i) (3 * s)) (λ l. rw (stays s i q l) (omega arith))
      (λ n.
      let f : 3 * s ≤ nat_abs i = omega arith in
      by_cases (dec_lt s (nat_abs q))
      (λ g. rw (side s i q f g, nat_abs_signed) (omega arith))
      (λ h. let g : nat_abs q ≤ s = omega arith in rw (over s i q f g, nat_abs_signed) (omega arith)))

-- ---- s of 2n + 1 bits, for n from 3 to 6

pub record Sizes (n s : ℕ) : Type 0 where
  pub least : 4 ≤ s
  pub most : s ≤ 32
  pub lower : 2 ^ n ≡ 2 * s
  pub upper : 2 ^ (n + 1) ≡ 4 * s

pub sizes : (n s : ℕ) → 2 < n → n < 7 → s ≡ 2 ^ (n - 1) → Sizes n s
sizes n s some few e =
    let l : 2 ≤ n - 1 = omega arith in
    let h : n - 1 ≤ 5 = omega arith in
    let t = twice n (omega arith) in
    record {
      least = omega (arith, pow_mono l);
      most = omega (arith, pow_mono h);
      lower = omega arith;
      upper = omega (arith, pow-suc 2 n, ap (λ (k : ℕ). 2 ^ k) (add-one n));
    }
