-- Load profiles: the load of each subcarrier in bits, what a cell of a load may hold, and the loads of the data cells of an input symbol
-- (document 02, request 07). Assumes nothing.
use Rattle.std.specs.Prelude.{ℕ, zero, suc, ◌-◌, ◌^◌, Bool, not, ◌&&◌, ◌||◌, List, leb, ltb, eqb, length, get_or}
use Rattle.counting.specs.Search.{when, lowest, select, tabulate}
use Rattle.rules.specs.Refusals.{Finding}
use Rattle.rules.specs.Grounds.{◌else◌, ground?}
use Rattle.rules.specs.Frame.{Frame, cells, spot, is_data, data_count}

-- a load that a profile may hold: 0, 4 or 6 to 14
unfoldable pub profile_load : ℕ → Bool
profile_load l = eqb l 0 || eqb l 4 || (leb 6 l && leb l 14)

-- 25, of a device with n subcarriers: the profile is not n bytes, place 0, or else a load byte not listed, place the lowest
unfoldable pub ground25 : ℕ → List ℕ → Finding
ground25 n w = ground? 25 (when (not (eqb (length w) n)) 0) else ground? 25 (lowest (λ k. not (profile_load (get_or w k 0))) n)

-- the load with which the modulator is given a cell (request 04): a cell of load 0, which is 0 or 1 and carries no bits, with load 1
unfoldable pub point_load : ℕ → ℕ
point_load zero = 1
point_load (suc l) = suc l

-- the greatest number that a data cell of load l may be: it is below 2 to the load; with load 0, though, it is 0 or 1
unfoldable pub load_limit : ℕ → ℕ
load_limit l = 2 ^ point_load l - 1

-- the limit of subcarrier k in the profile w
abbrev pub limit_at : List ℕ → ℕ → ℕ
limit_at w k = load_limit (get_or w k 0)

module _ (F : Frame) (w : List ℕ) where
  -- the load of cell p: that of the subcarrier it is emitted on
  unfoldable pub cell_load : ℕ → ℕ
  cell_load p = get_or w (spot F p) 0

  -- the loads of the data cells of the input symbol at phase j, in rising p
  unfoldable pub data_loads : ℕ → List ℕ
  data_loads j = tabulate (λ c. cell_load (select (is_data F j) (cells F) c)) (data_count F j)

  -- 19: a data cell exceeds its load's limit (its position, lowest)
  unfoldable pub ground19 : ℕ → List ℕ → Finding
  ground19 j ds = ground? 19 (lowest (λ i. ltb (load_limit (get_or (data_loads j) i 0)) (get_or ds i 0)) (length ds))
