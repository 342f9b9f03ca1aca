-- Cells row after row, for any number of bits: the state of the loops in a row, and the table of 256 rows. Assumes nothing.
use Prim.Native.Nat.{ℕ, zero, suc, ◌+◌, ◌-◌, ◌*◌, ◌%◌, ◌/◌, ◌^◌, ◌≤◌, ◌<◌}
use mathlib.Core.Path.{◌≡◌, sym, ap, ap₂, ◌∙◌}
use Rattle.std.specs.Prelude.{Option, unwrap_or}
use native.Mathlib.Nat.{mod-lt, div-add-mod, mod-eq_of_lt, div-eq_of_lt, add-mul-mod_self_right, add-mul-div_right, mul-le-mul_right, add-zero, pow-suc}
use native.Mathlib.Omega.{arith}
use lib.Pow.{pow_pos, pow-add, pow_mono}
use lib.Dec.{ltb}
use Rattle.counting.specs.Search.{rank}
use Rattle.counting.proofs.Laws.{count_le}
use Rattle.counting.proofs.Ranks.{rank_below}
use Rattle.rules.specs.Fits.{capacity, row_bits_max}
use Rattle.rules.specs.Frame.{reversed, house_key}
use Rattle.frame.specs.Rows.{rows_before}
use Rattle.frame.proofs.House.{reversed_lt, rows}
use Rattle.walk.specs.Walk.{straight, walked, walk_cell}
use Rattle.walk.proofs.Rows.{rows_all, rows_here, rows_next}
use Rattle.walk.proofs.Walks.{straight_rows}

pub few_rows : (b : ℕ) → b ≤ row_bits_max → 2 ^ b ≤ capacity
few_rows b h = let l : 2 ^ b ≤ 2 ^ row_bits_max = pow_mono h in omega (arith, l)

-- the state of the loops in a row: p in the i-th row read, o cells read before it
pub record At (b n i p o : ℕ) : Type 0 where
  pub row : i < 2 ^ b
  pub place : p % 2 ^ b ≡ reversed b i
  pub near : p < n + 2 ^ b
  pub order : o ≡ rows_before b n i + p / 2 ^ b

pub at_start : (b n i p o : ℕ) → i < 2 ^ b → p ≡ reversed b i → o ≡ rows_before b n i → At b n i p o
at_start b n i p o hi e eo =
    let l : p < 2 ^ b = omega (arith, reversed_lt b i) in
    record { row = hi; place = mod-eq_of_lt l ∙ e; near = omega arith; order = omega (arith, div-eq_of_lt l) }

module _ (b n i p o : ℕ) (t : At b n i p o) where
  -- k cells further on in the row
  pub ahead_by : (R : ℕ) → R ≡ 2 ^ b → (k : ℕ) → p + k * R < n + R → At b n i (p + k * R) (o + k)
  ahead_by R e k h =
      let g : p + k * 2 ^ b < n + 2 ^ b = rw e at h in
      rw e
      (record {
        row = t.row;
        place = add-mul-mod_self_right p k (2 ^ b) ∙ t.place;
        near = g;
        order = omega (arith, t.order, add-mul-div_right p k (pow_pos b));
      })

  -- o is the rank of p
  rank_at : p < n → rank (house_key b n) n p ≡ o
  rank_at h = rows_here b n n i p (omega arith) t.row h t.place ∙ sym t.order

  pub low_at : p < n → o < n
  low_at h = omega (arith, rank_below (house_key b n) n p h, rank_at h)

  -- and p is number o of the walk
  pub cell_at : p < n → p ≡ walk_cell b n o
  unfolding walk_cell
  cell_at h =
      sym (ap (λ (r : ℕ). unwrap_or (walked b n straight r) 0) (sym (rank_at h)) ∙ ap (λ (found : Option ℕ). unwrap_or found 0) ((straight_rows b n n (omega arith)).comes p h))

  -- past the row's last cell come those of the next row
  pub end_at : n ≤ p → o ≡ rows_before b n (i + 1)
  end_at h = t.order ∙ rows_next b n i p h t.near t.place

-- ---- the row that begins with cell p, which has order o: it has C cells, R apart

-- as many steps of R as lead from p up to n, rounded up
row_ends : (R n p C : ℕ) → p < R → C ≡ (n + R - 1 - p) / R → (n ≤ p + C * R) × (p + C * R < n + R) × ((k : ℕ) → k < C → p + k * R < n)
row_ends R n p C h e =
    let d = div-add-mod (n + R - 1 - p) R in
    let m : (n + R - 1 - p) % R < R = mod-lt (n + R - 1 - p) (omega arith) in
    let c : R * ((n + R - 1 - p) / R) ≡ C * R = rw e (omega arith) in
    (omega (arith, d, m, c), omega (arith, d, c), λ k l. let u : suc k ≤ C = omega arith in omega (arith, d, c, mul-le-mul_right R u))

pub record Cells (b n i p o R C : ℕ) : Type 0 where
  pub few : R ≤ capacity
  pub start : p < R
  pub end : p + C * R < n + R
  pub inside : (k : ℕ) → k < C → p + k * R < n
  pub low : (k : ℕ) → k < C → o + k < n
  pub comes : (k : ℕ) → k < C → p + k * R ≡ walk_cell b n (o + k)
  pub next : o + C ≡ rows_before b n (i + 1)
  pub whole : o + C ≤ n

pub cells_of : (b n i p o R C : ℕ) → b ≤ row_bits_max → i < 2 ^ b → p ≡ reversed b i → o ≡ rows_before b n i → R ≡ 2 ^ b
    → C ≡ (n + R - 1 - p) / 2 ^ b → Cells b n i p o R C
cells_of b n i p o R C hb hi e eo eR eC = record {
  few = rw eR (few_rows b hb);
  start = start;
  end = ends.1;
  inside = ends.2;
  low = λ k h. low_at b n i _ _ (here k (omega arith)) (ends.2 k h);
  comes = λ k h. cell_at b n i _ _ (here k (omega arith)) (ends.2 k h);
  next = next;
  whole = omega (arith, next, rows b n (i + 1) (omega arith), count_le (λ q. ltb (reversed b (q % 2 ^ b)) (i + 1)) n);
}
  where
    start : p < R
    start = omega (arith, reversed_lt b i)

    ends : (n ≤ p + C * R) × (p + C * R < n + R) × ((k : ℕ) → k < C → p + k * R < n)
    ends = row_ends R n p C start (eC ∙ ap (λ (x : ℕ). (n + R - 1 - p) / x) (sym eR))

    here : (k : ℕ) → k ≤ C → At b n i (p + k * R) (o + k)
    here k h = ahead_by b n i p o (at_start b n i p o hi e eo) R eR k (omega (arith, ends.1, mul-le-mul_right R h))

    next : o + C ≡ rows_before b n (i + 1)
    next = end_at b n i _ _ (here C (omega arith)) ends.0

-- t cells on from the row's k-th, which is cell y and has order x
pub further : {b n i p o R C : ℕ} → Cells b n i p o R C → (k t x y : ℕ) → x ≡ o + k → y ≡ p + k * R → k + t < C
    → (x + t < n) × (y + t * R < n) × (y + t * R ≡ walk_cell b n (x + t))
further {b} {n} {i} {p} {o} {R} {C} w k t x y ex ey h =
    let z : p + (k + t) * R ≡ y + t * R = omega (arith, ey) in
    let e : o + (k + t) ≡ x + t = omega (arith, ex) in
    (omega (arith, e, w.low (k + t) h), omega (arith, z, w.inside (k + t) h), rw (z, e) at (w.comes (k + t) h))

pub here : {b n i p o R C : ℕ} → Cells b n i p o R C → (k x y : ℕ) → x ≡ o + k → y ≡ p + k * R → k < C
    → (x < n) × (y < n) × (y ≡ walk_cell b n x)
here {b} {n} {i} {p} {o} {R} {C} w k x y ex ey h =
    (omega (arith, ex, w.low k h), omega (arith, ey, w.inside k h), rw (← ey, ← ex) at (w.comes k h))

pub all_rows : (b n i o : ℕ) → i ≡ 2 ^ b → o ≡ rows_before b n i → o ≡ n
all_rows b n i o e eo = eo ∙ ap (rows_before b n) e ∙ rows_all b n

-- ---- the table of 256 rows, of which every so-many-th is a row of fewer

reversed_wide : (b m k : ℕ) → reversed (b + m) (k * 2 ^ m) ≡ reversed b k
unfolding reversed
reversed_wide b zero k =
    let e : k * 2 ^ 0 ≡ k = omega arith in
    ap₂ reversed (add-zero b) e
reversed_wide b (suc m) k =
    let e : b + suc m ≡ suc (b + m) = omega arith in
    let w : k * 2 ^ suc m ≡ k * 2 ^ m * 2 = ap (λ (x : ℕ). k * x) (pow-suc 2 m) ∙ omega arith in
    ap₂ reversed e w ∙ go (k * 2 ^ m)
    ∙ reversed_wide b m k
  where
    go : (x : ℕ) → reversed (suc (b + m)) (x * 2) ≡ reversed (b + m) x
    go x =
        let lo : x * 2 % 2 ≡ 0 = omega arith in
        let hi : x * 2 / 2 ≡ x = omega arith in
        rw (lo, hi) (omega arith)

pub in_table : (b step i : ℕ) → b ≤ row_bits_max → step ≡ 2 ^ (row_bits_max - b) → i < 2 ^ b → i * step + step ≤ 256
in_table b step i hb es h =
    let e : b + (row_bits_max - b) ≡ row_bits_max = omega arith in
    let w : 2 ^ b * 2 ^ (row_bits_max - b) ≡ 256 = sym (pow-add 2 b (row_bits_max - b)) ∙ ap (λ (x : ℕ). 2 ^ x) e in
    let g : suc i ≤ 2 ^ b = omega arith in
    rw es (omega (arith, w, mul-le-mul_right (2 ^ (row_bits_max - b)) g))

-- so the row of the table has a place in it
pub row_in_table : (b step i : ℕ) → b ≤ row_bits_max → step ≡ 2 ^ (row_bits_max - b) → i < 2 ^ b → i * step < 256
row_in_table b step i hb es h = omega (arith, in_table b step i hb es h, es, pow_pos (row_bits_max - b))

pub row_at : (b step i : ℕ) → b ≤ row_bits_max → step ≡ 2 ^ (row_bits_max - b) → reversed row_bits_max (i * step) ≡ reversed b i
row_at b step i hb es =
    let e : b + (row_bits_max - b) ≡ row_bits_max = omega arith in
    ap₂ reversed (sym e) (ap (λ (x : ℕ). i * x) es) ∙ reversed_wide b (row_bits_max - b) i
