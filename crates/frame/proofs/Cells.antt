-- Cells and places of a frame: each cell below N_I has a subcarrier of its own, and each data cell its number of the data list. Assumes nothing.
use Prim.Native.Nat.{ℕ, ◌≤◌, ◌<◌}
use mathlib.Core.Path.{◌≡◌, refl, sym, ap, ◌∙◌}
use mathlib.Core.Bool.{Bool, true, false, not}
use mathlib.Core.List.{List}
use lib.ListN.{length, get_or}
use Rattle.counting.specs.Search.{pick, count, select, of_rank}
use Rattle.counting.proofs.Bools.{conflict}
use Rattle.counting.proofs.Laws.{count_lt}
use Rattle.counting.proofs.Lists.{length_tabulate, get_d_tabulate, is_tabulate}
use Rattle.counting.proofs.Select.{Selected, selected, select-count}
use Rattle.counting.proofs.Ranks.{InjBelow, rank_below, of_rank_below, rank-of_rank, of_rank-rank}
use Rattle.rules.specs.Frame.{Frame, cells, cell_rank, carrier, spot, holder, held, is_data, data_count, Given, data_list, input_cells, data_of, line_symbol, line_cells, placeholder}

-- what the laws ask of a frame
pub record Sound (F : Frame) : Type 0 where
  pub depth_pos : 0 < F.depth
  pub depth_le : F.depth ≤ F.phases
  pub key_inj : InjBelow (cells F) F.key

module _ (F : Frame) where
  pub length_input : (j : ℕ) (g : Given) → length (input_cells F j g) ≡ cells F
  unfolding input_cells
  length_input j g = length_tabulate _ (cells F)

  pub input_at : (j : ℕ) (g : Given) (p : ℕ) → p < cells F
      → get_or (input_cells F j g) p 0 ≡ pick (held F j p) placeholder (get_or (data_list F j g) (count (is_data F j) p) 0)
  unfolding input_cells
  input_at j g p h = get_d_tabulate _ (cells F) 0 p h

  -- a data cell holds the data list's next
  pub input_data : (j : ℕ) (g : Given) (p : ℕ) → p < cells F → held F j p ≡ false → get_or (input_cells F j g) p 0 ≡ get_or (data_list F j g) (count (is_data F j) p) 0
  input_data j g p h e = input_at j g p h ∙ rw e refl

  pub input_held : (j : ℕ) (g : Given) (p : ℕ) → p < cells F → held F j p ≡ true → get_or (input_cells F j g) p 0 ≡ placeholder
  input_held j g p h e = input_at j g p h ∙ rw e refl

  not_held : (j p : ℕ) → is_data F j p ≡ true → held F j p ≡ false
  unfolding is_data
  not_held j p e = go (held F j p) refl
    where
      go : (b : Bool) → held F j p ≡ b → held F j p ≡ false
      go true g = absurd (conflict (not (held F j p)) e (ap not g))
      go false g = g

  -- the p of the c-th data cell
  pub data_cell_lem : (j c : ℕ) → c < data_count F j → Selected (is_data F j) (cells F) c (select (is_data F j) (cells F) c)
  unfolding data_count
  data_cell_lem j c h = selected (is_data F j) (cells F) c h

  pub data_cell_held : (j c : ℕ) → c < data_count F j → held F j (select (is_data F j) (cells F) c) ≡ false
  data_cell_held j c h = not_held j (select (is_data F j) (cells F) c) (data_cell_lem j c h).passes

  pub data_cell_at : (j c : ℕ) (g : Given) → c < data_count F j → get_or (input_cells F j g) (select (is_data F j) (cells F) c) 0 ≡ get_or (data_list F j g) c 0
  data_cell_at j c g h =
      let r = data_cell_lem j c h in
      input_data j g (select (is_data F j) (cells F) c) r.below (data_cell_held j c h) ∙ ap (λ (i : ℕ). get_or (data_list F j g) i 0) r.before

  -- as many numbers come out as there are data cells
  pub length_data : (j : ℕ) (x : List ℕ) → length (data_of F j x) ≡ data_count F j
  unfolding data_of
  length_data j x = length_tabulate _ (data_count F j)

  -- what was filled in comes out
  pub data_back : (j : ℕ) (g : Given) (x : List ℕ) → length (data_list F j g) ≡ data_count F j → ((p : ℕ) → p < cells F → get_or x p 0 ≡ get_or (input_cells F j g) p 0)
      → data_of F j x ≡ data_list F j g
  unfolding data_of
  data_back j g x e h =
      sym
      (is_tabulate (data_list F j g) (data_count F j) (λ c. get_or x (select (is_data F j) (cells F) c) 0) e
      (λ c l. sym (h (select (is_data F j) (cells F) c) (data_cell_lem j c l).below ∙ data_cell_at j c g l)))

  -- the cells of a symbol on the line, in cell order
  pub length_line_cells : (y : List ℕ) → length (line_cells F y) ≡ cells F
  unfolding line_cells
  length_line_cells y = length_tabulate _ (cells F)

  pub line_cell : (y : List ℕ) (p : ℕ) → p < cells F → get_or (line_cells F y) p 0 ≡ get_or y (spot F p) 0
  unfolding line_cells
  line_cell y p h = get_d_tabulate _ (cells F) 0 p h

  -- the subcarrier of a cell is one of the frame's, with the cell's rank
  spot_selected : (p : ℕ) → p < cells F → Selected F.ranked F.width (cell_rank F p) (spot F p)
  unfolding spot cell_rank carrier cells
  spot_selected p h = selected F.ranked F.width (cell_rank F p) (rank_below F.key (cells F) p h)

  pub spot_below : (p : ℕ) → p < cells F → spot F p < F.width
  spot_below p h = (spot_selected p h).below

  pub spot_ranked : (p : ℕ) → p < cells F → F.ranked (spot F p) ≡ true
  spot_ranked p h = (spot_selected p h).passes

  module _ (inj : InjBelow (cells F) F.key) where
    pub holder_spot : (p : ℕ) → p < cells F → holder F (spot F p) ≡ p
    unfolding holder cell_rank
    holder_spot p h = ap (of_rank F.key (cells F)) (spot_selected p h).before ∙ of_rank-rank F.key (cells F) inj p h

    pub spot_inj : InjBelow (cells F) (spot F)
    spot_inj p q hp hq e = sym (holder_spot p hp) ∙ ap (holder F) e ∙ holder_spot q hq

    pub holder_below : (k : ℕ) → k < F.width → F.ranked k ≡ true → holder F k < cells F
    unfolding holder cells
    holder_below k h e = of_rank_below F.key (cells F) inj (count F.ranked k) (count_lt F.ranked k F.width h e)

    pub spot_holder : (k : ℕ) → k < F.width → F.ranked k ≡ true → spot F (holder F k) ≡ k
    unfolding spot cell_rank carrier holder cells
    spot_holder k h e =
        ap (select F.ranked F.width) (rank-of_rank F.key (cells F) inj (count F.ranked k) (count_lt F.ranked k F.width h e))
        ∙ select-count F.ranked F.width k h e

    pub length_line : (x : List ℕ) → length (line_symbol F x) ≡ F.width
    unfolding line_symbol
    length_line x = length_tabulate _ F.width

    line_at : (x : List ℕ) (k : ℕ) → k < F.width → get_or (line_symbol F x) k 0 ≡ pick (F.ranked k) (get_or x (holder F k) 0) (F.mark k)
    unfolding line_symbol
    line_at x k h = get_d_tabulate _ F.width 0 k h

    pub line_ranked : (x : List ℕ) (k : ℕ) → k < F.width → F.ranked k ≡ true → get_or (line_symbol F x) k 0 ≡ get_or x (holder F k) 0
    line_ranked x k h e = line_at x k h ∙ rw e refl

    pub line_unranked : (x : List ℕ) (k : ℕ) → k < F.width → F.ranked k ≡ false → get_or (line_symbol F x) k 0 ≡ F.mark k
    line_unranked x k h e = line_at x k h ∙ rw e refl

    -- cell p of the symbol on the line stands at its spot
    pub line_spot : (x : List ℕ) (p : ℕ) → p < cells F → get_or (line_symbol F x) (spot F p) 0 ≡ get_or x p 0
    line_spot x p h =
        line_ranked x (spot F p) (spot_below p h) (spot_ranked p h) ∙ ap (λ (q : ℕ). get_or x q 0) (holder_spot p h)
