-- What filling a data symbol from a bit stream in bytes, and the way back, answer and leave (document 02, request 07): grounds 1 to 15, 25,
-- 16, 18, 26, and on the way back 19. The answer is how many bits the symbol takes; what is refused changes nothing. Assumes nothing.
use Rattle.std.specs.Prelude.{ℕ, ◌*◌, ◌-◌, List, ltb, length, Ok, Err}
use Rattle.counting.specs.Search.{when}
use Rattle.rules.specs.declared.Device.{Device}
use Rattle.rules.specs.Refusals.{Finding, CountAnswer, refused_by}
use Rattle.rules.specs.Plan.{plan_of}
use Rattle.rules.specs.Grounds.{◌else◌, ground?, grounds1to15}
use Rattle.rules.specs.Frame.{Frame, frame_of}
use Rattle.rules.specs.Bits.{total, filled_from, unfilled_into}
use Rattle.rules.specs.Loads.{ground25, data_loads, ground19}
use Rattle.rules.specs.Steps.{ground16, ground18}

-- what an entry answers, and the lent cells or bytes as it leaves them
pub record Filling : Type 0 where
  pub answer : CountAnswer
  pub left : List ℕ

abbrev pub fills : CountAnswer → List ℕ → Filling
fills r l = record { answer = r; left = l }

module _ (F : Frame) (w : List ℕ) where
  -- how many bits the data symbol at phase j takes: what the loads of its data cells add up to
  unfoldable pub bit_count : ℕ → ℕ
  bit_count j = total (data_loads F w j)

  -- 26: fewer bits remain, of a stream of n bytes from bit a on, than the symbol's loads add up to, a start past the end leaving none
  unfoldable pub ground26 : ℕ → ℕ → ℕ → Finding
  ground26 j n a = ground? 26 (when (ltb (n * 8 - a) (bit_count j)) 0)

  -- the grounds of filling m cells at phase j from a stream of n bytes, starting at bit a, under an accepted plan
  unfoldable pub fill_grounds : ℕ → ℕ → ℕ → ℕ → Finding
  fill_grounds j m n a = ground25 F.width w else ground16 F j else ground18 F j m else ground26 j n a

  -- filling skips 19; the way back tries it, last
  unfoldable pub unfill_grounds : ℕ → List ℕ → ℕ → ℕ → Finding
  unfill_grounds j ds n a = fill_grounds j (length ds) n a else ground19 F w j ds

  -- filling under an accepted plan: the phase, the stream, the start and the lent cells
  unfoldable pub frame_fill : ℕ → List ℕ → ℕ → List ℕ → Filling
  frame_fill j bytes a room =
      elim (fill_grounds j (length room) (length bytes) a) [
        | Ok _ ↦ fills (Ok (bit_count j)) (filled_from (data_loads F w j) bytes a)
        | Err r ↦ fills (Err r) room
      ]

  -- the way back: the phase, the data, the start and the lent stream
  unfoldable pub frame_unfill : ℕ → List ℕ → ℕ → List ℕ → Filling
  frame_unfill j ds a bytes =
      elim (unfill_grounds j ds (length bytes) a) [
        | Ok _ ↦ fills (Ok (bit_count j)) (unfilled_into (data_loads F w j) ds bytes a)
        | Err r ↦ fills (Err r) bytes
      ]

module _ (d : Device) (s w : List ℕ) where
  -- fill a data symbol, of any bytes as a plan s and as a profile w: the phase, the stream, the start and the lent cells
  unfoldable pub fill_step : ℕ → List ℕ → ℕ → List ℕ → Filling
  fill_step j bytes a room =
      elim (grounds1to15 d s) [ Ok _ ↦ frame_fill (frame_of d (plan_of s)) w j bytes a room | Err r ↦ fills (Err r) room ]

  -- the way back: the phase, the data, the start and the lent stream
  unfoldable pub unfill_step : ℕ → List ℕ → ℕ → List ℕ → Filling
  unfill_step j ds a bytes =
      elim (grounds1to15 d s) [ Ok _ ↦ frame_unfill (frame_of d (plan_of s)) w j ds a bytes | Err r ↦ fills (Err r) bytes ]
