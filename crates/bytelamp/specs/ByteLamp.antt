-- What the pilot lamp and the list of pilots answer and leave over bytes (document 02, Req 10, as request 01 has it): ground 21, tried before 1, for a
-- symbol of odd length or too short a buffer for the lights or the list, which are answers; and else what they answer over the cells of
-- the bytes, the lights and the list at the start of their buffers. A refusal changes nothing. Assumes nothing.
use Rattle.std.specs.Prelude.{ℕ, ◌*◌, Bool, ◌||◌, List, ltb, length, Ok, Err}
use Rattle.std.proofs.lemmas.List.Edits.{sets}
use Rattle.counting.specs.Search.{pick}
use Rattle.rules.specs.declared.Device.{Device}
use Rattle.rules.specs.Refusals.{CountAnswer, refused_by}
use Rattle.bytecells.specs.Octets.{cells_of, bytes_of, odd}
use Rattle.pilots.specs.declared.PilotAnswer.{PilotAnswer}
use Rattle.pilots.specs.Pilots.{pilots_most, pilots_answer}
use Rattle.lampgrounds.specs.Steps.{Hearing, lamp_step}

-- bytes at the start of a lent buffer, if nothing refuses; bytes past them are untouched
abbrev pub put_if : CountAnswer → List ℕ → List ℕ → List ℕ
put_if (Ok n) bytes l = sets l 0 bytes
put_if (Err r) bytes l = l

-- what the list of pilots answers, and the lent buffer as it leaves it
pub record ByteListing : Type 0 where
  pub answer : CountAnswer
  pub list : List ℕ

abbrev pub leaves_list : CountAnswer → List ℕ → ByteListing
leaves_list a l = record { answer = a; list = l }

-- the pilots as numbers of two bytes, high byte first
abbrev pub listed : PilotAnswer → List ℕ → ByteListing
listed p l = leaves_list p.answer (put_if p.answer (bytes_of p.list) l)

-- what the lamp answers, and its record and the lent lights as it leaves them
pub record ByteHearing : Type 0 where
  pub answer : CountAnswer
  pub counts : List ℕ
  pub lights : List ℕ

abbrev pub leaves_lamp : CountAnswer → List ℕ → List ℕ → ByteHearing
leaves_lamp a r l = record { answer = a; counts = r; lights = l }

-- one byte a light
abbrev pub with_lights : Hearing → List ℕ → ByteHearing
with_lights m l = leaves_lamp m.answer.answer m.counts (put_if m.answer.answer m.answer.lights l)

-- 21: too short a buffer for two bytes a pilot, and for one byte a light
unfoldable pub short_list : List ℕ → Bool
short_list l = ltb (length l) (2 * pilots_most)

unfoldable pub short_lights : List ℕ → Bool
short_lights l = ltb (length l) pilots_most

module _ (d : Device) (s : List ℕ) where
  -- the lent buffer for the list
  unfoldable pub pilots_bytes : List ℕ → ByteListing
  pilots_bytes l = pick (short_list l) (leaves_list (refused_by 21 0) l) (listed (pilots_answer d s) l)

  -- the bytes of a symbol, the record, and the lent buffer for the lights
  unfoldable pub lamp_bytes : List ℕ → List ℕ → List ℕ → ByteHearing
  lamp_bytes y r l = pick (odd y || short_lights l) (leaves_lamp (refused_by 21 0) r l) (with_lights (lamp_step d s r (cells_of y)) l)
