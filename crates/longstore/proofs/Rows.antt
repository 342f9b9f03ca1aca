-- A short and a long store that hold the same send the same cells, and hold the same after the step; for any delays below the depth. Assumes nothing.
use Prim.Native.Nat.{ℕ, suc, ◌+◌, ◌-◌, ◌*◌, ◌%◌, ◌≤◌, ◌<◌}
use mathlib.Core.Path.{◌≡◌, refl, sym, ap, ◌∙◌}
use mathlib.Core.Logic.{◌≢◌, by_cases}
use mathlib.Core.List.{List}
use native.Mathlib.Nat.{mod-lt, mod-eq_of_lt, mod-add-mod, add-mod_right, mul-le-mul_right, sub-zero}
use native.Mathlib.Decide.{dec_lt}
use native.Mathlib.Omega.{arith}
use lib.ListN.{length, get_or}
use lib.Seq.{length-sets}
use Rattle.counting.proofs.Lists.{tabulate_cong, get_d_sets_before, get_or-sets_after, get_or-sets_in}
use Rattle.counting.proofs.Orders.{same_mod}
use Rattle.rules.specs.Places.{places_before, places_and, oldest, moved}
use Rattle.places.proofs.Kept.{place_old, place_new, moved_at, length_moved}
use Rattle.longstore.specs.Store.{cell_at, put_row, next_row, delayed}

-- ---- rows

-- the row e back from row r, around the ring
abbrev pub row_back : ℕ → ℕ → ℕ → ℕ
row_back m r e = (r + (m - e)) % m

-- it is another row, for e from 1 to m - 1
row_apart : (m r e : ℕ) → r < m → 0 < e → e < m → row_back m r e ≢ r
row_apart m r e hr pos he q =
    let k : r + (m - e) ≡ r = same_mod m r (r + (m - e)) (omega arith) (omega arith) (q ∙ sym (mod-eq_of_lt hr)) in
    omega arith

row_none : (m r e : ℕ) → r < m → e ≡ 0 → row_back m r e ≡ r
row_none m r e hr z =
    let k : r + (m - e) ≡ r + m = omega arith in
    rw k (add-mod_right r m ∙ mod-eq_of_lt hr)

-- one row on, it is one more row back
row_on : (m r e : ℕ) → 0 < e → e < m → row_back m (next_row m r) e ≡ row_back m r (e - 1)
unfolding next_row
row_on m r e pos he = mod-add-mod (r + 1) m (m - e) ∙ ap (λ (x : ℕ). x % m) (let k : r + 1 + (m - e) ≡ r + (m - (e - 1)) = omega arith in k)

put_same : (m n : ℕ) (l : List ℕ) (r : ℕ) (x : List ℕ) (p : ℕ) → r < m → m * n ≤ length l → length x ≡ n → p < n → cell_at n (put_row n l r x) r p ≡ get_or x p 0
unfolding put_row cell_at
put_same m n l r x p hr hl hx hp = get_or-sets_in l (r * n) x 0 p (omega arith) (omega (arith, mul-le-mul_right n hr))

put_other : (n : ℕ) (l : List ℕ) (r r' : ℕ) (x : List ℕ) (p : ℕ) → r' ≢ r → length x ≡ n → p < n → cell_at n (put_row n l r x) r' p ≡ cell_at n l r' p
unfolding put_row cell_at
put_other n l r r' x p ne hx hp =
    by_cases (dec_lt r' r)
    (λ c. get_d_sets_before l (r * n) x 0 (r' * n + p) (omega (arith, mul-le-mul_right n c)))
    (λ c.
    let c' : suc r ≤ r' = omega arith in
    get_or-sets_after l (r * n) x 0 (r' * n + p) (omega (arith, mul-le-mul_right n c')))

-- ---- both stores

-- Of n cells with the delays d, at row r of m rows, place i of cell p in the short store s holds what the long store l holds in the row d p - i back.
pub record Agree (d : ℕ → ℕ) (m n r : ℕ) (s l : List ℕ) : Type 0 where
  pub row_in : r < m
  pub places_fit : places_before d n ≤ length s
  pub rows_fit : m * n ≤ length l
  pub same : (p i : ℕ) → p < n → i < d p → get_or s (places_before d p + i) 0 ≡ cell_at n l (row_back m r (d p - i)) p

module _ (d : ℕ → ℕ) (m n : ℕ) (below : (p : ℕ) → d p < m) (r : ℕ) (s l x : List ℕ) (size : length x ≡ n) (agree : Agree d m n r s l) where
  -- the same with the symbol x behind the places, and in row r
  with_symbol : (p i : ℕ) → p < n → i ≤ d p → get_or (places_and d s x p) i 0 ≡ cell_at n (put_row n l r x) (row_back m r (d p - i)) p
  with_symbol p i hp hi =
      by_cases (dec_lt i (d p))
      (λ c.
      place_old d n s x agree.places_fit p i hp c ∙ agree.same p i hp c
      ∙ sym (put_other n l r (row_back m r (d p - i)) x p (row_apart m r (d p - i) agree.row_in (omega arith) (omega (arith, below p))) size hp))
      (λ c.
      place_new d n s x agree.places_fit p i hp (omega arith)
      ∙ sym (rw (row_none m r (d p - i) agree.row_in (omega arith)) (put_same m n l r x p agree.row_in agree.rows_fit size hp)))

  pub same_cells : oldest d n s x ≡ delayed m n d (put_row n l r x) r
  unfolding oldest delayed
  same_cells = tabulate_cong (λ p. get_or (places_and d s x p) 0 0) (λ p. cell_at n (put_row n l r x) (row_back m r (d p)) p) n (λ p hp. rw (sub-zero (d p)) at (with_symbol p 0 hp (omega arith)))

  pub agree_next : Agree d m n (next_row m r) (moved d n s x) (put_row n l r x)
  unfolding next_row put_row
  agree_next = record {
    row_in = mod-lt (r + 1) (omega (arith, agree.row_in));
    places_fit = rw (length_moved d) agree.places_fit;
    rows_fit = rw length-sets agree.rows_fit;
    same = λ p i hp hi.
        let k : d p - suc i ≡ d p - i - 1 = omega arith in
        moved_at d n s x agree.places_fit p i hp hi ∙ with_symbol p (suc i) hp hi
        ∙ rw (k, row_on m r (d p - i) (omega arith) (omega (arith, below p))) refl;
  }
