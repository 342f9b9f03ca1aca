-- The cells that are filled from the flags of a frame's placeholders are the frame's input symbols, and the data taken from one is the frame's
-- data of it. Assumes nothing.
use Prim.Native.Nat.{ℕ, ◌≤◌, ◌<◌}
use mathlib.Core.Path.{◌≡◌, refl, sym, ap, ◌∙◌}
use mathlib.Core.Bool.{Bool, true, false, not}
use mathlib.Core.List.{List}
use native.Mathlib.Omega.{arith}
use lib.ListN.{length, get_or, replicate, get_or-replicate}
use Rattle.counting.specs.Search.{bit, pick, count, select, tabulate, is_zero}
use Rattle.counting.proofs.Bools.{by_test}
use Rattle.counting.proofs.Laws.{count_ext, count_lt}
use Rattle.counting.proofs.Lists.{tabulate_cong}
use Rattle.counting.proofs.Select.{selected, select_ext}
use Rattle.rules.specs.Frame.{Frame, cells, held, is_data, data_count, data_list, input_cells, data_of, flush, symbol, placeholder, filler}
use Rattle.fill.specs.Flags.{data_cell, filler_cell, taken_data, Flagged}

bit_is_zero : (l : List ℕ) (p : ℕ) (b : Bool) → get_or l p 0 ≡ bit b → is_zero l p ≡ not b
unfolding is_zero
bit_is_zero l p true e = rw e refl
bit_is_zero l p false e = rw e refl

not_pick : (b : Bool) (x y : ℕ) → pick (not b) x y ≡ pick b y x
not_pick true x y = refl
not_pick false x y = refl

module _ (F : Frame) (j : ℕ) (flag : List ℕ) (hf : Flagged F j flag) where
  free : (p : ℕ) → p < cells F → is_zero flag p ≡ is_data F j p
  unfolding is_data
  free p h = bit_is_zero flag p (held F j p) (hf p h)

  free_below : (p : ℕ) → p ≤ cells F → count (is_zero flag) p ≡ count (is_data F j) p
  free_below p h = count_ext (is_zero flag) (is_data F j) p (λ i l. free i (omega arith))

  -- N_D, as the flags have it
  pub free_count : (n : ℕ) → n ≡ cells F → count (is_zero flag) n ≡ data_count F j
  unfolding data_count
  free_count n e = rw e (free_below (cells F) (omega arith))

  -- the data cells, as the flags have them
  pub free_select : (n : ℕ) → n ≡ cells F → (c : ℕ) → c < data_count F j
      → (select (is_zero flag) n c ≡ select (is_data F j) (cells F) c) × (select (is_data F j) (cells F) c < n)
  unfolding data_count
  free_select n e c h = (
    ap (λ (m : ℕ). select (is_zero flag) m c) e ∙ select_ext (is_zero flag) (is_data F j) (cells F) c free (omega (arith, free_below (cells F) (omega arith))),
    omega (arith, (selected (is_data F j) (cells F) c h).below),
  )

  -- what `fill_data` leaves in N_I cells
  pub filled : (ds x : List ℕ) (n : ℕ) → n ≡ cells F → x ≡ tabulate (data_cell flag ds) n → x ≡ input_cells F j (symbol ds)
  unfolding input_cells data_list data_cell is_data
  filled ds x n e ex =
      ex ∙ ap (tabulate (data_cell flag ds)) e
      ∙ tabulate_cong _ _ (cells F) (λ p h. rw (free p h, free_below p (omega arith)) (not_pick (held F j p) _ _))

  filler_at : (p : ℕ) → p < cells F → filler_cell flag p ≡ pick (held F j p) placeholder (get_or (replicate (data_count F j) filler) (count (is_data F j) p) 0)
  unfolding filler_cell is_data data_count
  filler_at p h =
      by_test (held F j p)
      (λ e. rw (free p h, e) refl)
      (λ e. rw (free p h, e) (sym (get_or-replicate (data_count F j) (count (is_data F j) p) filler 0 (count_lt (is_data F j) p (cells F) h (ap not e)))))

  -- what `fill_filler` leaves in N_I cells
  pub flushed : (x : List ℕ) (n : ℕ) → n ≡ cells F → x ≡ tabulate (filler_cell flag) n → x ≡ input_cells F j flush
  unfolding input_cells data_list
  flushed x n e ex = ex ∙ ap (tabulate (filler_cell flag)) e ∙ tabulate_cong _ _ (cells F) filler_at

-- what `take_data` takes from an input symbol of N_I cells
pub taken : (F : Frame) (j : ℕ) (flag x : List ℕ) → length x ≡ cells F → Flagged F j flag → taken_data flag x ≡ data_of F j x
unfolding taken_data data_of
taken F j flag x e hf =
    ap (λ (n : ℕ). tabulate (λ c. get_or x (select (is_zero flag) n c) 0) (count (is_zero flag) n)) e
    ∙ ap (tabulate (λ c. get_or x (select (is_zero flag) (cells F) c) 0)) number
    ∙ tabulate_cong _ _ (data_count F j)
    (λ c h. ap (λ (p : ℕ). get_or x p 0) (select_ext (is_zero flag) (is_data F j) (cells F) c (free F j flag hf) (omega (arith, number))))
  where
    number : count (is_zero flag) (cells F) ≡ data_count F j
    number = free_count F j flag hf (cells F) refl
