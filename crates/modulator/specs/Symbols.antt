-- A modulator symbol (request 04; no paper fixes its layout, docs/MODULATOR.md does): two numbers for each subcarrier, first coordinate
-- first. What filling one answers and leaves. Assumes nothing.
use Rattle.std.specs.Prelude.{ℕ, zero, suc, ◌+◌, ◌*◌, Bool, true, false, not, ◌&&◌, List, eqb, pos, length, get_or, set, Float, Option, Some, None, Result, Ok, Err}
use Rattle.std.specs.Float.{fin}
use Rattle.counting.specs.Search.{pick, lowest}
use Rattle.rules.specs.declared.Device.{Device}
use Rattle.rules.specs.declared.Refusal.{Refusal}
use Rattle.rules.specs.Refusals.{refusal}
use Rattle.modulator.specs.declared.OnLine.{OnLine}
use Rattle.modulator.specs.declared.OnLine.TheVariants.{Silent, Open, Point, Pilot}
use Rattle.modulator.specs.declared.RefusedPoint.{RefusedPoint}
use Rattle.modulator.specs.Lines.{LineAnswer, line_answer}

-- the number 0
abbrev pub nought : Float
nought = fin false 0 (pos 0)

-- the two numbers of subcarrier k
abbrev pub pair : List Float → ℕ → Float → Float → List Float
pair l k x y = set (set l (2 * k) x) (2 * k + 1) y

-- silent is 0, 0; what is left open stays as it was; a point has its coordinates; a pilot its amplitude and 0
abbrev pub put : List Float → ℕ → OnLine → List Float
put l k Silent = pair l k nought nought
put l k Open = l
put l k (Point s) = pair l k s.x s.y
put l k (Pilot a) = pair l k a nought

-- what filling answers: done, or a refusal and the subcarrier
abbrev pub ModulateAnswer : Type 0
ModulateAnswer = Result Unit RefusedPoint

abbrev pub refused_point : Refusal → ℕ → ModulateAnswer
refused_point r k = Err (record { refusal = r; subcarrier = k })

-- what filling answers, and the modulator symbol as it leaves it
pub record Modulating : Type 0 where
  pub answer : ModulateAnswer
  pub numbers : List Float

abbrev pub modulates : ModulateAnswer → List Float → Modulating
modulates r l = record { answer = r; numbers = l }

-- a byte for the sign bit of a subcarrier's pilot: 0 for plus, any other for minus
abbrev pub is_minus : ℕ → Bool
is_minus b = not (eqb b 0)

-- the subcarrier is refused
abbrev pub refused : LineAnswer → Bool
refused (Ok l) = false
refused (Err r) = true

-- a refusal at subcarrier k
abbrev pub refused_at : ℕ → LineAnswer → ModulateAnswer
refused_at k (Ok l) = Ok tt
refused_at k (Err r) = refused_point r k

-- what stands on the line at subcarrier k, written
abbrev pub put_answer : List Float → ℕ → LineAnswer → List Float
put_answer l k (Ok line) = put l k line
put_answer l k (Err r) = l

-- of a symbol on the line, the load of each subcarrier and the sign of each subcarrier's pilot
module _ (symbol loads minus : List ℕ) where
  -- what stands on the line at subcarrier k
  unfoldable pub line_at : ℕ → LineAnswer
  line_at k = line_answer (get_or symbol k 0) (get_or loads k 0) (is_minus (get_or minus k 0))

  -- the modulator symbol with subcarriers 0 to n - 1 filled
  unfoldable pub filled_to : ℕ → List Float → List Float
  filled_to zero l = l
  filled_to (suc k) l = put_answer (filled_to k l) k (line_at k)

  -- the lowest subcarrier refused by 22 or 23
  abbrev pub line_refusal : ℕ → Option ℕ
  line_refusal n = lowest (λ k. refused (line_at k)) n

  -- refused at the lowest such subcarrier, or filled
  abbrev pub answered : ℕ → Option ℕ → List Float → Modulating
  answered n (Some k) l = modulates (refused_at k (line_at k)) l
  answered n None l = modulates (Ok tt) (filled_to n l)

  -- a cell, a load, a sign and two numbers for each of the device's subcarriers, and no more
  unfoldable pub fitting : Device → List Float → Bool
  fitting d l = eqb (length symbol) d.subcarriers && eqb (length loads) d.subcarriers && eqb (length minus) d.subcarriers && eqb (length l) (2 * d.subcarriers)

  -- 17: lengths that do not fit, place 0; then 22 and 23, place as on the line; a refusal changes nothing
  unfoldable pub modulate_step : Device → List Float → Modulating
  modulate_step d l = pick (fitting d l) (answered d.subcarriers (line_refusal d.subcarriers) l) (modulates (refused_point (refusal 17 0) 0) l)
