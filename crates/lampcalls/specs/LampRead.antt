-- What a C host reads from calls of the pilot lamp (request 10; docs/C-HOST.md): the number, the value in its answer buffer, its record, and, where the
-- number is 0, the lights. Statements only. Assumes nothing.
use Rattle.std.specs.Prelude.{ℕ, ◌≡◌, false, List, eqb, take, replicate, Ok}
use Rattle.counting.specs.Search.{pick}
use Rattle.rules.specs.declared.Device.{Device}
use Rattle.rules.specs.Plan.{plan_of}
use Rattle.rules.specs.Grounds.{verdict}
use Rattle.bytecells.specs.Octets.{bytes_of}
use Rattle.pilots.specs.Pilots.{pilots_most, continuous_pilots}
use Rattle.lamprecord.specs.Record.{lamp_cap}
use Rattle.lampgrounds.specs.Steps.{Hearing, leaves_record, lamp_step}
use Rattle.lamp.specs.Claims.{StepClaims, RunClaims}
use Rattle.bytelamp.specs.ByteLamp.{short_lights}
use Rattle.answerbytes.specs.Layout.{short}
use Rattle.headend.specs.Calls.{LampSaid, lamp_call}
use Rattle.callruns.specs.CallEntries.{told_in, count_of}

-- how a host takes what a call said and left; the lights count only where the number is 0
abbrev pub lamp_of : LampSaid → Hearing
lamp_of c =
    leaves_record (record {
      answer = count_of (told_in c.said);
      lights = pick (eqb c.said.number 0) (take pilots_most c.lights) (replicate pilots_most 0);
    }) c.counts

-- the lent buffers for the lights and the answer
module _ (d : Device) (s l a : List ℕ) where
  -- the lamp's step as a host does it: the record r, and a symbol y as the bytes of its cells
  abbrev pub call_step : List ℕ → List ℕ → Hearing
  call_step r y = lamp_of (lamp_call d s (bytes_of y) r l a)

  -- buffers that are long enough
  pub record LampCalls : Type 0 where
    -- what a host takes is what the lamp over cells answers and leaves
    pub read : (r y : List ℕ) → call_step r y ≡ lamp_step d s r y
    -- so the claims of the lamp are claims of its calls
    pub steps : StepClaims call_step
    pub runs : (n : ℕ) → verdict d s ≡ Ok n → (ys : List (List ℕ)) → RunClaims lamp_cap (continuous_pilots d (plan_of s)) d.subcarriers call_step ys

-- the claim, for the device d and any bytes s as a plan
abbrev pub LampIsRead : Device → List ℕ → Type 0
LampIsRead d s = (l a : List ℕ) → short_lights l ≡ false → short a ≡ false → LampCalls d s l a
