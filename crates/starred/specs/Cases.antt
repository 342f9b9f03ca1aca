-- The starred cases of document 01, "Plan A and its neighbours", as one table, the plans at the limits that 02, Req 02 moved, and
-- the lengths of Plan A's stores that 02, Req 03 names. Proved in proofs/Starred.antt. Assumes nothing.
use Rattle.std.specs.Prelude.{ℕ, ◌≡◌, true, List, [], ◌∷◌, map, Ok}
use Rattle.counting.specs.Search.{those}
use Rattle.rules.specs.Refusals.{refused_by}
use Rattle.rules.specs.Device.{khz50}
use Rattle.rules.specs.Plan.{Plan, plan_of}
use Rattle.rules.specs.Roles.{predefined, scattered, rank_of}
use Rattle.rules.specs.Grounds.{verdict}
use Rattle.rules.specs.Frame.{Frame, frame_of, cell_rank, spot, sent_phase, held}
use Rattle.rules.specs.Store.{emitter_places, receiver_places}

-- L 972, M 4; 0 to 799 excluded; then another excluded range, and further records
unfoldable pub plan_with : List ℕ → List ℕ
plan_with more = 1 ∷ 0 ∷ 0 ∷ 1 ∷ 0x03 ∷ 0xCC ∷ 0 ∷ 4 ∷ 2 ∷ 0 ∷ 0 ∷ 2 ∷ 0 ∷ 0 ∷ 0x03 ∷ 0x1F ∷ more

-- Plan A: active 800 to 1240
unfoldable pub plan_a : List ℕ
plan_a = plan_with (2 ∷ 0 ∷ 0 ∷ 0 ∷ 0x04 ∷ 0xD9 ∷ 0x0F ∷ 0xFF ∷ [])

-- active 800 to 1239
unfoldable pub plan_to1239 : List ℕ
plan_to1239 = plan_with (2 ∷ 0 ∷ 0 ∷ 0 ∷ 0x04 ∷ 0xD8 ∷ 0x0F ∷ 0xFF ∷ [])

-- active 800 to 1238
unfoldable pub plan_to1238 : List ℕ
plan_to1238 = plan_with (2 ∷ 0 ∷ 0 ∷ 0 ∷ 0x04 ∷ 0xD7 ∷ 0x0F ∷ 0xFF ∷ [])

-- active 800 to 1239 but for 810 and 811, and 1355 to 1394 but for 1360 and 1361: bands of 440 and of 40 subcarriers, 119 excluded in a span of 595, two in the band of 40
unfoldable pub plan_at_limits : List ℕ
plan_at_limits = plan_with (
    2 ∷ 0 ∷ 0 ∷ 3 ∷ 0x05 ∷ 0x73 ∷ 0x0F ∷ 0xFF
    ∷ 2 ∷ 0 ∷ 0 ∷ 4 ∷ 0x04 ∷ 0xD8 ∷ 0x05 ∷ 0x4A
    ∷ 2 ∷ 0 ∷ 0 ∷ 5 ∷ 0x03 ∷ 0x2A ∷ 0x03 ∷ 0x2B
    ∷ 2 ∷ 0 ∷ 0 ∷ 0 ∷ 0x05 ∷ 0x50 ∷ 0x05 ∷ 0x51 ∷ [])

-- Plan A, also excluding 850 to 854
unfoldable pub plan_to854 : List ℕ
plan_to854 = plan_with (2 ∷ 0 ∷ 0 ∷ 3 ∷ 0x04 ∷ 0xD9 ∷ 0x0F ∷ 0xFF ∷ 2 ∷ 0 ∷ 0 ∷ 0 ∷ 0x03 ∷ 0x52 ∷ 0x03 ∷ 0x56 ∷ [])

-- Plan A, also excluding 850 to 853
unfoldable pub plan_to853 : List ℕ
plan_to853 = plan_with (2 ∷ 0 ∷ 0 ∷ 3 ∷ 0x04 ∷ 0xD9 ∷ 0x0F ∷ 0xFF ∷ 2 ∷ 0 ∷ 0 ∷ 0 ∷ 0x03 ∷ 0x52 ∷ 0x03 ∷ 0x55 ∷ [])

unfoldable pub A : Plan
A = plan_of plan_a

-- the subcarriers of Plan A that are scattered at phase j
unfoldable pub scatteredA : ℕ → List ℕ
scatteredA j = those (scattered khz50 A j) 0 4096

unfoldable pub frame_a : Frame
frame_a = frame_of khz50 A

abbrev pub Starred : Type 0
Starred =
    (verdict khz50 plan_a ≡ Ok 425)
    × (predefined khz50 A.plc ≡ 925 ∷ 937 ∷ 948 ∷ 957 ∷ 994 ∷ 1003 ∷ 1014 ∷ 1026 ∷ [])
    × (scatteredA 0 ≡ 852 ∷ 980 ∷ 1108 ∷ 1236 ∷ [])
    × (scatteredA 125 ≡ 849 ∷ 1105 ∷ 1233 ∷ [])
    × (scatteredA 14 ≡ 866 ∷ 1122 ∷ [])
    × (map (rank_of khz50 A) (852 ∷ 980 ∷ 1236 ∷ []) ≡ 52 ∷ 168 ∷ 420 ∷ [])
    × (map (cell_rank frame_a) (0 ∷ 128 ∷ 256 ∷ 384 ∷ 64 ∷ 32 ∷ 1 ∷ []) ≡ 0 ∷ 1 ∷ 2 ∷ 3 ∷ 4 ∷ 7 ∷ 213 ∷ [])
    × (spot frame_a 1 ≡ 1029) × (held frame_a 48 1 ≡ true) × (sent_phase frame_a 48 1 ≡ 49)
    × (verdict khz50 [] ≡ refused_by 1 0)
    × (verdict khz50 plan_to1239 ≡ Ok 424)
    × (verdict khz50 plan_to1238 ≡ refused_by 10 0)
    × (verdict khz50 plan_at_limits ≡ Ok 460)
    × (verdict khz50 plan_to854 ≡ refused_by 14 835)
    × (verdict khz50 plan_to853 ≡ Ok 421)
    × (emitter_places frame_a ≡ 636) × (receiver_places frame_a ≡ 639)
