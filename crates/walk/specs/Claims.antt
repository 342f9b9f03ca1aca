-- What is claimed of the walk (document 02, Req 06). Statements only. Assumes nothing.
use Rattle.std.specs.Prelude.{ℕ, suc, ◌+◌, ◌≤◌, ◌<◌, ◌≡◌, List, length, get_or, Ok, Option, Some, None, option_and_then}
use Rattle.counting.specs.Search.{tabulate, rank, of_rank}
use Rattle.rules.specs.declared.Device.{Device}
use Rattle.rules.specs.Plan.{plan_of}
use Rattle.rules.specs.Grounds.{verdict}
use Rattle.rules.specs.Frame.{Frame, frame_of, cells, carrier, spot, line_symbol, line_cells}
use Rattle.walk.specs.Walk.{next_place, straight, next_cell, walked, walk_cell}
use Rattle.walk.specs.Stores.{stores}

-- ---- from cell to cell: a step and its walk beside the ranks that a key gives n cells

pub record RowAfterRow (key : ℕ → ℕ) (n : ℕ) (next walk : ℕ → Option ℕ) : Type 0 where
  -- the step leads from the cell with rank i to the one with rank i + 1
  pub leads : (p : ℕ) → p < n → rank key n p + 1 < n → (q : ℕ) × (q < n) × (next p ≡ Some q) × (rank key n q ≡ rank key n p + 1)
  -- and ends exactly at rank n - 1
  pub ends : (p : ℕ) → p < n → rank key n p + 1 ≡ n → next p ≡ None
  -- the walk begins at rank 0
  pub begins : 0 < n → (p : ℕ) × (p < n) × (walk 0 ≡ Some p) × (rank key n p ≡ 0)
  -- and goes on by the step
  pub steps : (i : ℕ) → walk (suc i) ≡ option_and_then next (walk i)
  -- number i of it is the cell of rank i, and nothing comes after number n - 1
  pub numbers : (i : ℕ) → i < n → walk i ≡ Some (of_rank key n i)
  pub over : (i : ℕ) → n ≤ i → walk i ≡ None
  -- each cell comes, as the number that is its rank and as no other
  pub comes : (p : ℕ) → p < n → walk (rank key n p) ≡ Some p
  pub once : (i p : ℕ) → walk i ≡ Some p → (p < n) × (i ≡ rank key n p)

-- ---- symbols in that order: number r of the walk belongs to the subcarrier of rank r

pub record FilledByWalk (F : Frame) (cell : ℕ → ℕ) : Type 0 where
  -- the symbol that sends the cells x: over the marks, one cell after the other
  pub placing : (x : List ℕ) → stores (carrier F) (λ r. get_or x (cell r) 0) (cells F) (tabulate F.mark F.width) ≡ line_symbol F x
  -- the subcarriers by cell, and the arriving cells in cell order, over whatever stood in the list
  pub subcarriers : (l : List ℕ) → length l ≡ cells F → stores cell (carrier F) (cells F) l ≡ tabulate (spot F) (cells F)
  pub arriving : (y l : List ℕ) → length l ≡ cells F → stores cell (λ r. get_or y (carrier F r) 0) (cells F) l ≡ line_cells F y

-- ---- both of a plan, any bytes, on any device

pub record PlanWalk (d : Device) (s : List ℕ) : Type 0 where
  -- an accepted plan has as many cells as the N_I with which it is accepted
  pub accepted : (n : ℕ) → verdict d s ≡ Ok n → n ≡ cells (frame_of d (plan_of s))
  pub rows : RowAfterRow (frame_of d (plan_of s)).key (cells (frame_of d (plan_of s))) (next_cell d.row_bits (cells (frame_of d (plan_of s))) straight) (walked d.row_bits (cells (frame_of d (plan_of s))) straight)
  -- no column is turned: the step is the one from place to place
  pub straight_step : (p : ℕ) → next_cell d.row_bits (cells (frame_of d (plan_of s))) straight p ≡ next_place d.row_bits (cells (frame_of d (plan_of s))) p
  pub symbols : FilledByWalk (frame_of d (plan_of s)) (walk_cell d.row_bits (cells (frame_of d (plan_of s))))
