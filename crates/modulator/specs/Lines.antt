-- What stands on the line at a subcarrier (request 04): silent, left open for the PLC, a point, or a pilot of amplitude plus or minus 2.
-- Assumes nothing.
use Rattle.std.specs.Prelude.{ℕ, Bool, true, ◌||◌, eqb, pos, Float, Result, Ok, Err}
use Rattle.std.specs.Float.{fin}
use Rattle.counting.specs.Search.{pick}
use Rattle.rules.specs.declared.Refusal.{Refusal}
use Rattle.rules.specs.Refusals.{refused_by}
use Rattle.rules.specs.Roles.{excluded_mark, continuous_mark, plc_mark}
use Rattle.rules.specs.Frame.{placeholder, filler}
use Rattle.points.specs.Points.{point_of, load_listed}
use Rattle.modulator.specs.declared.OnLine.{OnLine}
use Rattle.modulator.specs.declared.OnLine.TheVariants.{Silent, Open, Point, Pilot}
use Rattle.scaling.specs.Scale.{ScaledAnswer, scaled_answer, near_point}

-- the answer to what stands on the line, or a refusal
abbrev pub LineAnswer : Type 0
LineAnswer = Result OnLine Refusal

-- plus or minus 2, exactly: 1 times 2^1; minus where the sign bit is 1, which is true (`line_claims` has their bits)
abbrev pub amplitude : Bool → Float
amplitude minus = fin minus 1 (pos 1)

-- a scaled point on the line, or refused as it is
abbrev pub line_from : ScaledAnswer → LineAnswer
line_from (Ok s) = Ok (Point s)
line_from (Err r) = Err r

-- a cell that is no mark: the scaled point of that value; 23: not below 2 to the load, place the value
unfoldable pub unmarked : ℕ → ℕ → LineAnswer
unmarked cell m = line_from (scaled_answer m cell)

-- a mark: filler and excluded are silent, the PLC is left open, scattered and continuous are pilots
unfoldable pub mark_line : ℕ → Bool → OnLine
mark_line mark minus =
    pick (eqb mark filler || eqb mark excluded_mark) Silent
    (pick (eqb mark plc_mark) Open
    (Pilot (amplitude minus)))

-- the five marks: scattered, filler, excluded, continuous, PLC
unfoldable pub marked : ℕ → Bool
marked cell = eqb cell placeholder || eqb cell filler || eqb cell excluded_mark || eqb cell continuous_mark || eqb cell plc_mark

-- a mark or a value
unfoldable pub line_of : ℕ → ℕ → Bool → LineAnswer
line_of cell m minus = pick (marked cell) (Ok (mark_line cell minus)) (unmarked cell m)

-- 22, of every cell: a load not listed, place the load
unfoldable pub line_answer : ℕ → ℕ → Bool → LineAnswer
line_answer cell m minus = pick (load_listed m) (line_of cell m minus) (refused_by 22 m)

-- a point on the line is near the cell's point
abbrev pub near_line : ℕ → ℕ → OnLine → Bool
near_line cell m Silent = true
near_line cell m Open = true
near_line cell m (Point s) = near_point m (point_of m cell) s
near_line cell m (Pilot a) = true

-- the same of an answer
abbrev pub near_line_answer : ℕ → ℕ → LineAnswer → Bool
near_line_answer cell m (Ok l) = near_line cell m l
near_line_answer cell m (Err r) = true
