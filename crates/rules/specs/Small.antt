-- The definitions at a small device of 96 subcarriers, as one table: both sides of each limit of grounds 6 to 15, pilots, scattered
-- subcarriers, ranks and cells. A definition that is changed fails here within a second; the starred cases of the 50 kHz device, crate
-- starred, take twenty. The numbers are those of the second model (tests/small.py). Proved in proofs/SmallTable.antt. Assumes nothing.
use Rattle.std.specs.Prelude.{ℕ, suc, ◌≡◌, true, List, [], ◌∷◌, map, Ok}
use Rattle.counting.specs.Search.{those}
use Rattle.rules.specs.declared.Device.{Device}
use Rattle.rules.specs.Refusals.{refused_by}
use Rattle.rules.specs.Plan.{Plan, plan_of}
use Rattle.rules.specs.Roles.{predefined, scattered, rank_of}
use Rattle.rules.specs.Grounds.{verdict}
use Rattle.rules.specs.Frame.{Frame, frame_of, cell_rank, spot, sent_phase, held}

-- no head end's: its sizes are small enough to compute with, and each limit can be met and passed by one
abbrev pub small : Device
small = record {
  subcarriers = 96;
  low_active = 4;
  high_active = 91;
  low_plc = 16;
  high_plc = 72;
  depth_max = 32;
  plc_width = 4;
  plc_margin = 10;
  distances = 2 ∷ 4 ∷ 7 ∷ 9 ∷ [];
  exclusion_run = 5;
  band_min = 10;
  band_wide = 40;
  long_window = 20;
  long_max = 2;
  short_window = 6;
  short_max = 1;
  ranked_max = 60;
  row_bits = 3;
}

-- records i, i + 1, .. of a kind, the last one with the next index zero; the numbers are below 256
unfoldable pub chained : ℕ → List (ℕ × ℕ × ℕ) → List ℕ
chained i [] = []
chained i ((k, a, b) ∷ []) = k ∷ 0 ∷ 0 ∷ 0 ∷ 0 ∷ a ∷ 0 ∷ b ∷ []
chained i ((k, a, b) ∷ r ∷ rs) = k ∷ 0 ∷ 0 ∷ suc i ∷ 0 ∷ a ∷ 0 ∷ b ∷ chained (suc i) (r ∷ rs)

-- L 30, M 4; up to a and from b on excluded; then further records
unfoldable pub between : ℕ → ℕ → List (ℕ × ℕ × ℕ) → List ℕ
between a b more = chained 0 ((1, 30, 4) ∷ (2, 0, a) ∷ (2, b, 95) ∷ more)

-- active 8 to 79
unfoldable pub small_a : Plan
small_a = plan_of (between 7 80 [])

unfoldable pub small_frame : Frame
small_frame = frame_of small small_a

abbrev pub Small : Type 0
Small =
    (verdict small (between 7 80 []) ≡ Ok 60)
    × (predefined small 30 ≡ 21 ∷ 23 ∷ 26 ∷ 28 ∷ 35 ∷ 37 ∷ 40 ∷ 42 ∷ [])
    × (map (λ j. those (scattered small small_a j) 0 96) (0 ∷ 10 ∷ 100 ∷ []) ≡ (34 ∷ []) ∷ (44 ∷ []) ∷ [] ∷ [])
    × (map (rank_of small small_a) (8 ∷ 43 ∷ 79 ∷ []) ≡ 0 ∷ 23 ∷ 59 ∷ [])
    × (map (cell_rank small_frame) (0 ∷ 8 ∷ 16 ∷ 1 ∷ 2 ∷ 4 ∷ 6 ∷ 59 ∷ []) ≡ 0 ∷ 1 ∷ 2 ∷ 30 ∷ 15 ∷ 8 ∷ 23 ∷ 52 ∷ [])
    × (spot small_frame 6 ≡ 43) × (held small_frame 7 6 ≡ true) × (sent_phase small_frame 7 6 ≡ 9)
    -- 6 and 7
    × (verdict small (between 2 92 []) ≡ refused_by 6 3)
    × (verdict small (between 3 92 []) ≡ refused_by 15 0)
    × (verdict small (between 19 80 []) ≡ Ok 48)
    × (verdict small (between 20 80 []) ≡ refused_by 7 20)
    -- 8: in the PLC, predefined, named twice, excluded; and a good one
    × (verdict small (between 7 80 ((3, 30, 0) ∷ [])) ≡ refused_by 8 3)
    × (verdict small (between 7 80 ((3, 28, 0) ∷ [])) ≡ refused_by 8 3)
    × (verdict small (between 7 80 ((3, 50, 0) ∷ (3, 50, 0) ∷ [])) ≡ refused_by 8 4)
    × (verdict small (between 7 80 ((3, 5, 0) ∷ [])) ≡ refused_by 8 3)
    × (verdict small (between 7 80 ((3, 50, 0) ∷ [])) ≡ Ok 59)
    -- 9 to 14 at their limits at once: bands of 40 and 10, 12 excluded in a span of 60, two in the band of 40, six apart; then one beyond each
    × (verdict small (between 14 75 ((2, 55, 64) ∷ (2, 44, 44) ∷ (2, 50, 50) ∷ [])) ≡ Ok 36)
    × (verdict small (between 14 74 ((2, 55, 64) ∷ (2, 44, 44) ∷ (2, 50, 50) ∷ [])) ≡ refused_by 9 65)
    × (verdict small (between 15 75 ((2, 55, 64) ∷ (2, 44, 44) ∷ (2, 50, 50) ∷ [])) ≡ refused_by 10 0)
    × (verdict small (between 14 76 ((2, 55, 65) ∷ (2, 44, 44) ∷ (2, 50, 50) ∷ [])) ≡ refused_by 11 0)
    × (verdict small (between 14 55 ((2, 44, 44) ∷ (2, 50, 50) ∷ (2, 53, 53) ∷ [])) ≡ refused_by 12 15)
    × (verdict small (between 7 80 ((2, 50, 50) ∷ (2, 60, 60) ∷ (2, 69, 69) ∷ [])) ≡ refused_by 13 50)
    × (verdict small (between 7 80 ((2, 50, 50) ∷ (2, 60, 60) ∷ (2, 70, 70) ∷ [])) ≡ Ok 57)
    × (verdict small (between 7 80 ((2, 60, 60) ∷ (2, 65, 65) ∷ [])) ≡ refused_by 14 60)
    × (verdict small (between 7 80 ((2, 60, 60) ∷ (2, 66, 66) ∷ [])) ≡ Ok 58)
    -- 15, and an exclusion band of 5, or none of 4
    × (verdict small (between 7 81 []) ≡ refused_by 15 0)
    × (verdict small (between 14 75 ((2, 55, 59) ∷ [])) ≡ Ok 43)
    × (verdict small (between 14 75 ((2, 55, 58) ∷ [])) ≡ refused_by 12 15)
