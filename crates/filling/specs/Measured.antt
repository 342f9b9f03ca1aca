-- The grounds of filling and of the way back, before 19, and what is known once none of them holds. Assumes nothing.
use Rattle.std.specs.Prelude.{ℕ, ◌+◌, ◌*◌, ◌≤◌, ◌<◌, ◌≡◌, List, ltb, length, get_or, take, Ok, Err}
use Rattle.counting.specs.Search.{lowest}
use Rattle.rules.specs.declared.Device.{Device}
use Rattle.rules.specs.Refusals.{Finding, CountAnswer}
use Rattle.rules.specs.Plan.{plan_of}
use Rattle.rules.specs.Grounds.{◌else◌, ground?, grounds1to15}
use Rattle.rules.specs.Frame.{Frame, frame_of, data_count}
use Rattle.rules.specs.Bits.{unfilled_into}
use Rattle.rules.specs.Loads.{load_limit, data_loads}
use Rattle.rules.specs.Filling.{Filling, fills, bit_count, fill_grounds}

-- the count where nothing was found, or the ground that was
abbrev pub count_or : Finding → ℕ → CountAnswer
count_or (Ok tt) n = Ok n
count_or (Err r) n = Err r

-- the answer to filling m cells at phase j from a stream of n bytes, starting at bit a: the plan s, the profile w
unfoldable pub measure : Device → List ℕ → List ℕ → ℕ → ℕ → ℕ → ℕ → CountAnswer
measure d s w j m n a = count_or (grounds1to15 d s else fill_grounds (frame_of d (plan_of s)) w j m n a) (bit_count (frame_of d (plan_of s)) w j)

-- the way back of the numbers ds, whose loads are ls and add up to need, once no ground before 19 holds
unfoldable pub put_back : List ℕ → List ℕ → ℕ → List ℕ → ℕ → Filling
put_back ls ds need stream a =
    elim (ground? 19 (lowest (λ i. ltb (load_limit (get_or ls i 0)) (get_or ds i 0)) (length ds))) [
      | Ok _ ↦ fills (Ok need) (unfilled_into ls ds stream a)
      | Err r ↦ fills (Err r) stream
    ]

-- There are m data cells, the first m places hold their loads, none above 14, and the stream has their bits from bit a on, if there are any.
pub record Measured (F : Frame) (w : List ℕ) (j m n a : ℕ) (loads : List ℕ) : Type 0 where
  pub all : m ≡ data_count F j
  pub few : m ≤ length loads
  pub these : take m loads ≡ data_loads F w j
  pub there : 0 < bit_count F w j → a + bit_count F w j ≤ n * 8

-- the same, where no ground was found
abbrev pub MeasuredIf : CountAnswer → Frame → List ℕ → ℕ → ℕ → ℕ → ℕ → List ℕ → Type 0
MeasuredIf (Ok need) F w j m n a loads = Measured F w j m n a loads
MeasuredIf (Err r) F w j m n a loads = Unit {0}
