-- What the pilot lamp answers and leaves when it is given a symbol (document 02, Req 10): grounds 1 to 15, then 28, "tried after 16", then 17. A refusal
-- changes nothing. Assumes nothing.
use Rattle.std.specs.Prelude.{ℕ, not, List, eqb, length, replicate, Ok, Err}
use Rattle.counting.specs.Search.{when}
use Rattle.rules.specs.declared.Device.{Device}
use Rattle.rules.specs.declared.Refusal.{Refusal}
use Rattle.rules.specs.Refusals.{Finding}
use Rattle.rules.specs.Plan.{plan_of}
use Rattle.rules.specs.Grounds.{◌else◌, ground?, grounds1to15}
use Rattle.pilots.specs.Pilots.{pilots_most, continuous_pilots}
use Rattle.lamprecord.specs.Record.{lamp_cap, lights, next_record, bad_record}
use Rattle.lampgrounds.specs.declared.LampAnswer.{LampAnswer}

-- what the lamp answers, and its record as it leaves it
pub record Hearing : Type 0 where
  pub answer : LampAnswer
  pub counts : List ℕ

abbrev pub leaves_record : LampAnswer → List ℕ → Hearing
leaves_record a r = record { answer = a; counts = r }

-- the record r of n pilots, and its lights
abbrev pub shows : ℕ → List ℕ → Hearing
shows n r = leaves_record (record { answer = Ok n; lights = lights pilots_most r }) r

-- a refusal: zeros for lights, which count only where nothing refuses
abbrev pub no_lights : Refusal → LampAnswer
no_lights a = record { answer = Err a; lights = replicate pilots_most 0 }

-- 28 of the record r, then 17 of a symbol of n cells, with the pilots ks on so many subcarriers; no cell is looked at
unfoldable pub lamp_grounds : List ℕ → ℕ → List ℕ → ℕ → Finding
lamp_grounds ks width r n = ground? 28 (when (bad_record lamp_cap (length ks) r) 0) else ground? 17 (when (not (eqb n width)) 0)

module _ (d : Device) (s : List ℕ) where
  -- all grounds of the lamp in their order
  unfoldable pub lamp_finding : List ℕ → ℕ → Finding
  lamp_finding r n = grounds1to15 d s else lamp_grounds (continuous_pilots d (plan_of s)) d.subcarriers r n

  -- the symbol y is heard: the next record, and its lights
  unfoldable pub lamp_hears : List ℕ → List ℕ → Hearing
  lamp_hears r y = shows (length (continuous_pilots d (plan_of s))) (next_record lamp_cap (continuous_pilots d (plan_of s)) y r)

  -- the lamp with the record r is given the symbol y, under any bytes as a plan
  unfoldable pub lamp_step : List ℕ → List ℕ → Hearing
  lamp_step r y = elim (lamp_finding r (length y)) [ Ok _ ↦ lamp_hears r y | Err a ↦ leaves_record (no_lights a) r ]
