-- A symbol through the lines: once the commutator has gone round and the lines are rotated, the store and the cells are those of the figure. Assumes
-- nothing.
use Prim.Native.Nat.{ℕ, ◌+◌, ◌-◌, ◌*◌, ◌/◌, ◌%◌, ◌≤◌, ◌<◌}
use mathlib.Core.Path.{◌≡◌, sym, ap, ◌∙◌}
use mathlib.Core.Logic.{by_cases}
use mathlib.Core.List.{List}
use native.Mathlib.Nat.{mod-lt, div-add-mod', mul-le-mul_right}
use native.Mathlib.Decide.{dec_lt, ℕ_discrete}
use native.Mathlib.Omega.{arith}
use lib.ListN.{length, get_or}
use lib.Seq.{ext_get_or}
use Rattle.counting.proofs.Lists.{is_tabulate}
use Rattle.figure.specs.Figure.{ceiling, line_begins, cell_in, out_at, figure_store, figure_cells}
use Rattle.places.proofs.Kept.{Within}
use Rattle.figure.proofs.Sizes.{enough, in_line, begins_at}
use Rattle.figure.proofs.Turns.{turn_below, below_times}
use Rattle.figure.proofs.Lines.{cell_own, through, through_old, through_new, out_is, after_symbol, past_symbol, length_symbol}
use Rattle.commutator.specs.Round.{comes_out, Gone}
use Rattle.rotatedlines.specs.Rotated.{LinesRotated}
use Rattle.commutator.proofs.Rounds.{out_straight, out_oldest, taken, not_taken}
use Rattle.rotatedlines.proofs.Rotated.{from_ahead, from_first}

module _ (m : ℕ) (pos : 0 < m) (s x t y t' : List ℕ) (long : line_begins (ceiling (length x) m) m ≤ length s) (gone : Gone (ceiling (length x) m) m s x (ceiling (length x) m * m) t y) (rotated : LinesRotated (ceiling (length x) m) m t t') where
  abbrev J : ℕ
  J = ceiling (length x) m

  -- ---- the store

  -- place i of line r: J places on stood a cell that was there before, or, past the line's end, a cell that went in
  line_stored : (r i : ℕ) → r < m → i < r * J → get_or t' (line_begins J r + i) 0 ≡ get_or (figure_store m (length x) s x) (line_begins J r + i) 0
  line_stored r i hr hi =
      rotated.rotated r i hr hi
      ∙ by_cases (dec_lt (i + J) (r * J))
      (λ c.
      let late : J * m ≤ (i + J) * m + r = omega (arith, mul-le-mul_right m (let l : J ≤ i + J = omega arith in l)) in
      ap (λ (k : ℕ). get_or t (line_begins J r + k) 0) (from_ahead (r * J) J i c)
      ∙ gone.lines r (i + J) hr c ∙ not_taken ((i + J) * m + r) (J * m) _ _ late
      ∙ sym (through_old m (length x) pos s x long r (i + J) c))
      (λ c.
      let k : ℕ = i + J - r * J in
      let low : k < J = omega arith in
      let one : k < r * J = omega (arith, mul-le-mul_right J (let l : 1 ≤ r = by_cases (ℕ_discrete r 0) (λ z. absurd (omega (arith, ap (λ (q : ℕ). q * J) z))) (λ z. omega arith) in l)) in
      let e : i + J ≡ r * J + k = omega arith in
      ap (λ (k : ℕ). get_or t (line_begins J r + k) 0) (from_first (r * J) J i (omega arith))
      ∙ gone.lines r k hr one ∙ taken (k * m + r) (J * m) _ _ (below_times k r m J low hr)
      ∙ sym (through_new m (length x) pos s x long r (i + J) k e))
      ∙ ap (through m (length x) pos s x long r) (let e : i + J ≡ J + i = omega arith in e)
      ∙ sym (after_symbol m (length x) pos s x long r i hr hi)

  past_lines : (k : ℕ) → line_begins J m ≤ k → get_or t' k 0 ≡ get_or (figure_store m (length x) s x) k 0
  past_lines k h = rotated.past k h ∙ gone.past k h ∙ sym (past_symbol m (length x) pos s x long k h)

  pub symbol_stored : t' ≡ figure_store m (length x) s x
  symbol_stored =
      ext_get_or 0 t' (figure_store m (length x) s x) (rotated.places ∙ gone.places ∙ sym (length_symbol m (length x) pos s x long))
      (λ k h.
      by_cases (dec_lt k (line_begins J m))
      (λ c. let w : Within (λ r. r * J) m k = in_line J m k c in rw (begins_at J m k w) at (line_stored w.cell w.nth w.below w.inside))
      (λ c. past_lines k (omega arith)))

  -- ---- the cells

  out_figure : (p : ℕ) → p < length x → comes_out J m s x p ≡ out_at m (length x) s x p
  out_figure p h =
      let below : p < J * m = omega (arith, enough (length x) m pos) in
      let cell : p / m * m + p % m ≡ p = div-add-mod' p m in
      by_cases (ℕ_discrete (p % m) 0)
      (λ z.
      let e : p / m ≡ p % m * J + p / m = omega (arith, ap (λ (r : ℕ). r * J) z) in
      out_straight J m s x p z
      ∙ sym (out_is m (length x) pos s x long p below ∙ through_new m (length x) pos s x long (p % m) (p / m) (p / m) e ∙ ap (cell_in (length x) x) cell ∙ cell_own (length x) x p h))
      (λ z.
      let old : p / m < p % m * J = omega (arith, turn_below m J p pos below, mul-le-mul_right J (let l : 1 ≤ p % m = omega arith in l)) in
      ap (comes_out J m s x) (sym cell) ∙ out_oldest J m s x (p / m) (p % m) (omega arith) (mod-lt p pos)
      ∙ sym (out_is m (length x) pos s x long p below ∙ through_old m (length x) pos s x long (p % m) (p / m) old))

  pub symbol_sent : y ≡ figure_cells m (length x) s x
  unfolding figure_cells
  symbol_sent = is_tabulate y (length x) (out_at m (length x) s x) gone.cells (λ p h. gone.sent p h (omega (arith, enough (length x) m pos)) ∙ out_figure p h)

-- with J by a name of its own
pub symbol_is : (m J : ℕ) → 0 < m → (s x t y t' : List ℕ) → J ≡ ceiling (length x) m → line_begins (ceiling (length x) m) m ≤ length s → Gone J m s x (J * m) t y → LinesRotated J m t t'
    → (t' ≡ figure_store m (length x) s x) × (y ≡ figure_cells m (length x) s x)
symbol_is m J pos s x t y t' e long gone rotated =
    let g : Gone (ceiling (length x) m) m s x (ceiling (length x) m * m) t y = rw e at gone in
    let u : LinesRotated (ceiling (length x) m) m t t' = rw e at rotated in
    (symbol_stored m pos s x t y t' long g u, symbol_sent m pos s x t y t' long g u)
