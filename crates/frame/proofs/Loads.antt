-- The loads of the data cells of an input symbol. Assumes nothing.
use Prim.Native.Nat.{ℕ, ◌≤◌, ◌<◌}
use mathlib.Core.Path.{◌≡◌}
use mathlib.Core.List.{List}
use native.Mathlib.Omega.{arith}
use lib.ListN.{length, get_or}
use Rattle.counting.specs.Search.{select}
use Rattle.counting.proofs.Lists.{length_tabulate, get_d_tabulate, tabulate_cong}
use Rattle.std.specs.Prelude.{Ok}
use Rattle.rules.specs.Frame.{Frame, cells, spot, is_data, data_count, line_cells, data_of}
use Rattle.rules.specs.Loads.{ground25, cell_load, data_loads}
use Rattle.rules.proofs.Loads.{loaded}
use Rattle.frame.proofs.Cells.{data_cell_lem, line_cell}

module _ (F : Frame) (w : List ℕ) (j : ℕ) where
  -- the loads of the data cells are those of the profile, laid on the subcarriers like a symbol on the line
  pub loads_line : data_of F j (line_cells F w) ≡ data_loads F w j
  unfolding data_of data_loads cell_load
  loads_line = tabulate_cong _ _ (data_count F j) (λ c h. line_cell F w (select (is_data F j) (cells F) c) (data_cell_lem F j c h).below)

  pub length_loads : length (data_loads F w j) ≡ data_count F j
  unfolding data_loads
  length_loads = length_tabulate _ (data_count F j)

  -- each is that of the subcarrier the cell is sent on
  pub load_at : (c : ℕ) → c < data_count F j → get_or (data_loads F w j) c 0 ≡ get_or w (spot F (select (is_data F j) (cells F) c)) 0
  unfolding data_loads cell_load
  load_at c h = get_d_tabulate _ (data_count F j) 0 c h

  -- none is above 14
  pub loads_small : ground25 F.width w ≡ Ok tt → (c : ℕ) → c < length (data_loads F w j) → get_or (data_loads F w j) c 0 ≤ 14
  loads_small fine c h = rw (load_at c (omega (arith, length_loads))) ((loaded F.width w fine).small _)
