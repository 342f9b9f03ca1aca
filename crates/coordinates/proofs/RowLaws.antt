-- The rows of the table, load by load: what is written adds rows and keeps those below. Assumes nothing.
use Prim.Native.Nat.{ℕ, suc, ◌+◌, ◌-◌, ◌*◌, ◌^◌, ◌<◌, ◌≤◌}
use mathlib.Core.Path.{◌≡◌, ap, ◌∙◌, subst}
use mathlib.Core.List.{List}
use mathlib.Core.Logic.{by_cases}
use native.Mathlib.Omega.{arith}
use native.Mathlib.Decide.{dec_lt}
use native.Mathlib.Numerals.{add-one}
use native.Mathlib.Nat.{pow-suc}
use lib.IntN.{ℤ, pos}
use lib.ListN.{length, get_or}
use lib.Pow.{pow_mono}
use lib.Ieee.{Float, nan}
use Rattle.gray.specs.Gray.{gray}
use Rattle.points.specs.Points.{cross}
use Rattle.scaling.specs.Scale.{factors, scaled}
use Rattle.coordinates.specs.Table.{times, Row, Written, start, OddRows, entries, Rows}
use Rattle.coordinates.proofs.Writing.{kept}

-- ---- a coordinate times the load's factor

times_scaled : (m : ℕ) (f : Float) → f ≡ get_or factors (m - 1) nan → (c : ℤ) → times f c ≡ scaled m c
unfolding scaled
times_scaled m f e c = ap (λ (g : Float). times g c) e

gray_row : (y : List Float) (at m n : ℕ) (f : Float) → f ≡ get_or factors (m - 1) nan → Row y at (2 ^ n) (λ i. times f (gray n i)) → Row y at (2 ^ n) (λ i. scaled m (gray n i))
gray_row y at m n f e r i h = r i h ∙ times_scaled m f e (gray n i)

-- ---- load 1, then the even loads

pub rows_one : (t y : List Float) (f : Float) → length t ≡ entries → f ≡ get_or factors (1 - 1) nan → Written t 0 (2 ^ 1) (λ i. times f (gray 1 i)) y → Rows 1 3 y
rows_one t y f l e w = record {
  long = w.long ∙ l;
  one = gray_row y 0 1 1 f e w.row;
  even = λ n some few. absurd (omega arith);
  odd = λ n some few. absurd (omega arith);
}

pub rows_even : (t y : List Float) (n at : ℕ) (f : Float) → 0 < n → Rows n 3 t → at ≡ 2 ^ n → f ≡ get_or factors (2 * n - 1) nan → Written t at (2 ^ n) (λ i. times f (gray n i)) y → Rows (suc n) 3 y
rows_even t y n at f some r ea e w₀ =
    let w : Written t (2 ^ n) (2 ^ n) (λ i. times f (gray n i)) y = subst (λ (k : ℕ). Written t k (2 ^ n) (λ i. times f (gray n i)) y) ea w₀ in
    let keep = kept t y (2 ^ n) (2 ^ n) (λ i. times f (gray n i)) w in
    record {
      long = w.long ∙ r.long;
      one = keep 0 2 (λ i. scaled 1 (gray 1 i)) (pow_mono some) r.one;
      even = λ m sm lm. by_cases (dec_lt m n)
          (λ l. keep (2 ^ m) (2 ^ m) (λ i. scaled (2 * m) (gray m i)) (omega (arith, pow-suc 2 m, pow_mono l)) (r.even m sm l))
          (λ g.
          let z : n ≡ m = omega arith in
          subst (λ (k : ℕ). Row y (2 ^ k) (2 ^ k) (λ i. scaled (2 * k) (gray k i))) z (gray_row y (2 ^ n) (2 * n) n f e w.row));
      odd = λ m sm few. absurd (omega arith);
    }

-- ---- the odd loads

-- what is written past the rows of an odd load keeps them
odd_kept : (t y : List Float) (at k : ℕ) (g : ℕ → Float) → Written t at k g y → (m : ℕ) → m < 7 → start m + 512 ≤ at → OddRows m (2 ^ (m - 1)) t → OddRows m (2 ^ (m - 1)) y
odd_kept t y at k g w m few past o =
    let keep = kept t y at k g w in
    let h : 2 ^ suc m ≤ 128 = pow_mono few in
    let d = pow-suc 2 m in
    record {
      past = keep (start m) (2 ^ suc m) _ (omega arith) o.past;
      within = keep (start m + 128) (2 ^ suc m) _ (omega arith) o.within;
      staying = keep (start m + 256) (2 ^ m) _ (omega arith) o.staying;
      moving = keep (start m + 384) (2 ^ m) _ (omega arith) o.moving;
    }

-- and so of all rows of smaller loads
rows_kept : (t y : List Float) (n at k : ℕ) (g : ℕ → Float) → 2 < n → n ≤ 7 → start n ≤ at → Written t at k g y → Rows 8 n t → Rows 8 n y
rows_kept t y n at k g some few past w r =
    let keep = kept t y at k g w in
    record {
      long = w.long ∙ r.long;
      one = keep 0 2 _ (omega arith) r.one;
      even = λ m sm lm. let h : 2 ^ suc m ≤ 256 = pow_mono lm in keep (2 ^ m) (2 ^ m) _ (omega (arith, pow-suc 2 m)) (r.even m sm lm);
      odd = λ m sm lm. odd_kept t y at k g w m (omega arith) (omega arith) (r.odd m sm lm);
    }

module _ (n s : ℕ) (f : Float) (es : s ≡ 2 ^ (n - 1)) (ef : f ≡ get_or factors (2 * n + 1 - 1) nan) where
  upper_row : (y : List Float) (at : ℕ) (q : ℕ → ℕ) → Row y at (2 ^ (n + 1)) (λ h. times f (cross s (gray (n + 1) h) (pos (q s))).x)
      → Row y at (2 ^ suc n) (λ h. scaled (2 * n + 1) (cross (2 ^ (n - 1)) (gray (suc n) h) (pos (q (2 ^ (n - 1))))).x)
  upper_row y at q r i h =
      r i (rw add-one h) ∙ (λ j. times f (cross (es j) (gray (add-one n j) i) (pos (q (es j)))).x)
      ∙ times_scaled (2 * n + 1) f ef (cross (2 ^ (n - 1)) (gray (suc n) i) (pos (q (2 ^ (n - 1))))).x

  lower_row : (y : List Float) (at : ℕ) (k : ℕ → ℕ) → Row y at (2 ^ n) (λ l. times f (cross s (pos (k s)) (gray n l)).y)
      → Row y at (2 ^ n) (λ l. scaled (2 * n + 1) (cross (2 ^ (n - 1)) (pos (k (2 ^ (n - 1)))) (gray n l)).y)
  lower_row y at k r i h =
      r i h ∙ (λ j. times f (cross (es j) (pos (k (es j))) (gray n i)).y)
      ∙ times_scaled (2 * n + 1) f ef (cross (2 ^ (n - 1)) (pos (k (2 ^ (n - 1)))) (gray n i)).y

  -- four rows more
  pub rows_odd : (t a b c d : List Float) → 2 < n → n < 7 → Rows 8 n t
      → Written t (start n) (2 ^ (n + 1)) (λ h. times f (cross s (gray (n + 1) h) (pos (2 * s - 1))).x) a
      → Written a (start n + 128) (2 ^ (n + 1)) (λ h. times f (cross s (gray (n + 1) h) (pos 1)).x) b
      → Written b (start n + 256) (2 ^ n) (λ l. times f (cross s (pos 1) (gray n l)).y) c
      → Written c (start n + 384) (2 ^ n) (λ l. times f (cross s (pos (4 * s - 1)) (gray n l)).y) d
      → Rows 8 (suc n) d
  rows_odd t a b c d some few r wa wb wc wd =
      let ra = rows_kept t a n _ _ _ some (omega arith) (omega arith) wa r in
      let rb = rows_kept a b n _ _ _ some (omega arith) (omega arith) wb ra in
      let rc = rows_kept b c n _ _ _ some (omega arith) (omega arith) wc rb in
      let rd = rows_kept c d n _ _ _ some (omega arith) (omega arith) wd rc in
      let h : 2 ^ suc n ≤ 128 = pow_mono few in
      let z = pow-suc 2 n in
      record {
        long = rd.long;
        one = rd.one;
        even = rd.even;
        odd = λ m sm lm. by_cases (dec_lt m n) (λ l. rd.odd m sm l)
            (λ g.
            let e : n ≡ m = omega arith in
            subst (λ (k : ℕ). OddRows k (2 ^ (k - 1)) d) e (record {
              past = kept c d _ _ _ wd (start n) (2 ^ suc n) _ (omega arith) (kept b c _ _ _ wc (start n) (2 ^ suc n) _ (omega arith) (kept a b _ _ _ wb (start n) (2 ^ suc n) _ (omega arith) (upper_row a (start n) (λ s. 2 * s - 1) wa.row)));
              within = kept c d _ _ _ wd (start n + 128) (2 ^ suc n) _ (omega arith) (kept b c _ _ _ wc (start n + 128) (2 ^ suc n) _ (omega arith) (upper_row b (start n + 128) (λ s. 1) wb.row));
              staying = kept c d _ _ _ wd (start n + 256) (2 ^ n) _ (omega arith) (lower_row c (start n + 256) (λ s. 1) wc.row);
              moving = lower_row d (start n + 384) (λ s. 4 * s - 1) wd.row;
            }));
      }
