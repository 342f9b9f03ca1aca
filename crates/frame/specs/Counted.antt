-- The data cells of as many successive symbols as there are phases (document 01, "Roles of a subcarrier"). Assumes nothing.
use Rattle.std.specs.Prelude.{ℕ, ◌+◌, ◌-◌, ◌*◌, ◌%◌, ◌<◌, ◌≡◌, Bool, true, false}
use Rattle.counting.specs.Search.{sum, count}
use Rattle.rules.specs.declared.Role.{Role}
use Rattle.rules.specs.declared.Role.TheVariants.{Excluded, Plc, Continuous, Scattered, Data}
use Rattle.rules.specs.Frame.{Frame, cells, data_count}

-- the phase of symbol t from the starting phase j
abbrev pub phase_of : Frame → ℕ → ℕ → ℕ
phase_of F j t = (j + t) % F.phases

-- the role is scattered; it is data
abbrev pub is_scattered : Role → Bool
is_scattered Excluded = false
is_scattered Plc = false
is_scattered Continuous = false
is_scattered Scattered = true
is_scattered Data = false

abbrev pub is_data_role : Role → Bool
is_data_role Excluded = false
is_data_role Plc = false
is_data_role Continuous = false
is_data_role Scattered = false
is_data_role Data = true

-- over all phases each subcarrier with a rank has the role scattered once, and from any phase on the data cells number phases less one times N_I: those of
-- input symbols, and the subcarriers of emitted symbols that have the role data
pub record Counts (F : Frame) : Type 0 where
  pub once : (k : ℕ) → k < F.width → F.ranked k ≡ true → count (λ j. is_scattered (F.role j k)) F.phases ≡ 1
  pub input : (j : ℕ) → sum (λ i. data_count F (phase_of F j i)) F.phases ≡ (F.phases - 1) * cells F
  pub emitted : (j : ℕ) → sum (λ i. count (λ k. is_data_role (F.role (phase_of F j i) k)) F.width) F.phases ≡ (F.phases - 1) * cells F
