-- What is read from the rows of a load: the scaled coordinates of the value's point. Assumes nothing.
use Prim.Native.Nat.{ℕ, suc, ◌+◌, ◌-◌, ◌*◌, ◌/◌, ◌%◌, ◌^◌, ◌<◌, ◌≤◌}
use mathlib.Core.Path.{◌≡◌, refl, sym, ap, ◌∙◌}
use mathlib.Core.List.{List}
use mathlib.Core.Bool.{true, false}
use mathlib.Core.Logic.{by_cases}
use native.Mathlib.Omega.{arith}
use native.Mathlib.Decide.{dec_le, ℕ_discrete}
use native.Mathlib.Nat.{zero-add, mod-lt}
use lib.Dec.{eqb}
use lib.IntN.{pos}
use lib.ListN.{get_or}
use lib.Pow.{pow_pos, shr_lt}
use lib.Ieee.{Float, nan}
use borrow.Author.Tests.{eq-eqb, ne_eqb, lt-leb}
use Rattle.counting.specs.Search.{bit}
use Rattle.counting.proofs.Bools.{conflict}
use Rattle.gray.specs.Gray.{gray}
use Rattle.gray.proofs.PositionLaws.{parity}
use Rattle.gray.proofs.GrayLaws.{gray_mod, small_power}
use Rattle.points.specs.Points.{even_point, odd_point, load_listed}
use Rattle.points.proofs.BackLaws.{covered, at_most, some_even}
use Rattle.scaling.specs.Scale.{scaled}
use Rattle.coordinates.specs.Table.{start, OddRows, Rows}
use Rattle.coordinates.proofs.Entries.{sizes}
use Rattle.coordinates.proofs.Sides.{past_s, within_s, past_3s, within_3s, x_past, x_within, y_past, y_within}

-- ---- where a value's numbers stand

-- v in two parts, of which the lower has n bits, with p = 2^n
pub record Parts (n j v p : ℕ) : Type 0 where
  pub some : 0 < p
  pub most : p ≤ 128
  pub low : v % p < p
  pub high : v / 2 ^ n < 2 ^ j

pub parts : (n j v p : ℕ) → n < 8 → v < 2 ^ (j + n) → p ≡ 2 ^ n → Parts n j v p
parts n j v p few h e =
    let f : n ≤ 7 = omega arith in
    let z : 0 < p = omega (arith, pow_pos n) in
    record { some = z; most = omega (arith, small_power n f); low = mod-lt v z; high = shr_lt j n h }

-- ---- load 1

pub one_x : (v : ℕ) (t : List Float) → Rows 8 7 t → v < 2 → get_or t v nan ≡ scaled 1 (gray 1 v)
one_x v t rows h = ap (λ (k : ℕ). get_or t k nan) (sym (zero-add v)) ∙ rows.one v h

-- ---- an even load

module _ (n v p : ℕ) (some : 0 < n) (few : n < 8) (power : p ≡ 2 ^ n) (t : List Float) (rows : Rows 8 7 t) where
  pub even_x : get_or t (p + v % p) nan ≡ scaled (2 * n) (even_point n v).x
  unfolding even_point
  even_x = ap (λ (k : ℕ). get_or t (k + v % k) nan) power ∙ rows.even n some few (v % 2 ^ n) (mod-lt v (pow_pos n))

  pub even_y : v < 2 ^ (n + n) → get_or t (p + v / 2 ^ n) nan ≡ scaled (2 * n) (even_point n v).y
  unfolding even_point
  even_y h = ap (λ (k : ℕ). get_or t (k + v / 2 ^ n) nan) power ∙ rows.even n some few (v / 2 ^ n) (shr_lt n n h)

-- ---- an odd load from 7 on

module _ (n v : ℕ) (some : 2 < n) (few : n < 7) (t : List Float) (rows : OddRows n (2 ^ (n - 1)) t) where
  -- the upper bits, with the second bit of the value
  pub odd_x : v < 2 ^ (suc n + n) → get_or t (start n + 128 * (v / 2 % 2) + v / 2 ^ n) nan ≡ scaled (2 * n + 1) (odd_point n v).x
  unfolding odd_point
  odd_x h =
      let s = 2 ^ (n - 1) in
      let z = sizes n s some few refl in
      let u = v / 2 ^ n in
      let l : u < 2 ^ suc n = shr_lt (suc n) n h in
      let i = gray (suc n) u in
      rw (gray_mod n v)
      (parity (v / 2)
      (λ e.
      let at : start n + 128 * (v / 2 % 2) + u ≡ start n + u = omega arith in
      rw (at, rows.past u l) (ap (scaled (2 * n + 1)) (x_past s i (pos (2 * s - 1)) (gray n v) (omega (arith, z.least)) (past_s n v (omega arith) e))))
      (λ o.
      let at : start n + 128 * (v / 2 % 2) + u ≡ start n + 128 + u = omega arith in
      rw (at, rows.within u l) (ap (scaled (2 * n + 1)) (x_within s i (pos 1) (gray n v) (omega (arith, z.least)) (within_s n v (omega arith) o)))))

  -- the lower bits, with the second and the third bit of the upper
  pub odd_y : get_or t (start n + 256 + 128 * bit (eqb (v / 2 ^ n / 2 % 4) 0) + v % 2 ^ n) nan ≡ scaled (2 * n + 1) (odd_point n v).y
  unfolding odd_point
  odd_y =
      let s = 2 ^ (n - 1) in
      let z = sizes n s some few refl in
      let u = v / 2 ^ n in
      let k = v % 2 ^ n in
      let l : k < 2 ^ n = mod-lt v (pow_pos n) in
      let i = gray (suc n) u in
      let q = gray n k in
      by_cases (ℕ_discrete (u / 2 % 4) 0)
      (λ e.
      let at : start n + 256 + 128 * 1 + k ≡ start n + 384 + k = omega arith in
      rw (eq-eqb (u / 2 % 4) 0 e, at, rows.moving k l)
      (ap (scaled (2 * n + 1)) (y_past s q (pos (4 * s - 1)) i (omega (arith, z.least)) (past_3s n u (omega arith) e))))
      (λ g.
      let at : start n + 256 + 128 * 0 + k ≡ start n + 256 + k = omega arith in
      rw (ne_eqb (u / 2 % 4) 0 g, at, rows.staying k l)
      (ap (scaled (2 * n + 1)) (y_within s q (pos 1) i (omega (arith, z.least)) (within_3s n u (omega arith) g))))

-- ---- which rows a listed load has

pub listed_even : (m : ℕ) → load_listed m ≡ true → m % 2 ≡ 0 → (0 < m / 2) × (m / 2 < 8)
listed_even m t e = (some_even m (covered m t) e, omega (arith, at_most m t))

pub listed_odd : (m : ℕ) → load_listed m ≡ true → (m % 2 ≡ 0 → ⊥) → (m ≡ 1 → ⊥) → (2 < m / 2) × (m / 2 < 7) × (2 * (m / 2) + 1 ≡ m)
unfolding load_listed
listed_odd m t g n =
    by_cases (ℕ_discrete (m % 2) 0) (λ e. absurd (g e))
    (λ o.
    let c : 6 ≤ m =
    by_cases (dec_le 6 m) (λ h. h)
    (λ l.
    let f : load_listed m ≡ false = rw (ne_eqb m 1 n, ne_eqb m 2 (λ e. omega arith), ne_eqb m 4 (λ e. omega arith), lt-leb 6 m (omega arith)) refl in
    absurd (conflict (load_listed m) t f)) in
    (omega arith, omega (arith, at_most m t), omega arith))
