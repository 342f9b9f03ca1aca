-- What is claimed of the pilot lamp (document 02, Req 10: "After every symbol its lights equal those worked out afresh from all that was heard").
-- Statements only. Assumes nothing.
use Rattle.std.specs.Prelude.{ℕ, ◌≤◌, ◌<◌, ◌≡◌, List, ◌∷◌, length, get_or, Ok, Err}
use Rattle.counting.specs.Search.{bit}
use Rattle.rules.specs.declared.Device.{Device}
use Rattle.rules.specs.declared.Refusal.{Refusal}
use Rattle.rules.specs.Refusals.{refused_by}
use Rattle.rules.specs.Plan.{plan_of}
use Rattle.rules.specs.Grounds.{verdict}
use Rattle.pilots.specs.Pilots.{continuous_pilots}
use Rattle.lamprecord.specs.Record.{lamp_cap, lit, lamp_record, lit_afresh}
use Rattle.lampgrounds.specs.Steps.{Hearing, lamp_step}
use Rattle.lamp.specs.Run.{lamp_run}

-- of every record and every symbol, with any bytes as a plan
pub record StepClaims (step : List ℕ → List ℕ → Hearing) : Type 0 where
  -- it never refuses on a cell: symbols of equal length are answered alike
  pub any_cells : (r y y' : List ℕ) → length y ≡ length y' → (step r y).answer.answer ≡ (step r y').answer.answer
  -- a refusal changes nothing
  pub stays : (r y : List ℕ) (a : Refusal) → (step r y).answer.answer ≡ Err a → (step r y).counts ≡ r

-- a lamp of pilots ks, on so many subcarriers, whose counts are capped at cap, from a fresh record on
module _ (cap : ℕ) (ks : List ℕ) (width : ℕ) (step : List ℕ → List ℕ → Hearing) where
  -- after these symbols were given, refused ones included
  pub record RunClaims (ys : List (List ℕ)) : Type 0 where
    -- the record is the capped number heard, then for each pilot the capped number in a row
    pub counted : (lamp_run step (length ks) ys).counts ≡ lamp_record cap ks (lamp_run step (length ks) ys).heard
    -- its lights are those worked out afresh from all that was heard
    pub afresh : (i : ℕ) → i < length ks → lit (lamp_run step (length ks) ys).counts i ≡ lit_afresh cap (lamp_run step (length ks) ys).heard (get_or ks i 0)
    -- one more symbol of full length is not refused, and one of another length is
    pub hears : (y : List ℕ) → length y ≡ width → (step (lamp_run step (length ks) ys).counts y).answer.answer ≡ Ok (length ks)
    pub refuses : (y : List ℕ) → (length y ≡ width → ⊥) → (step (lamp_run step (length ks) ys).counts y).answer.answer ≡ refused_by 17 0
    -- and the lights that it is answered with are those worked out afresh, it included; past the last pilot they are 0
    pub answered : (y : List ℕ) → length y ≡ width → (i : ℕ) → i < length ks
        → get_or (step (lamp_run step (length ks) ys).counts y).answer.lights i 0 ≡ bit (lit_afresh cap (y ∷ (lamp_run step (length ks) ys).heard) (get_or ks i 0))
    pub past : (y : List ℕ) → length y ≡ width → (i : ℕ) → length ks ≤ i → get_or (step (lamp_run step (length ks) ys).counts y).answer.lights i 0 ≡ 0

-- the claims, for the device d and a plan's bytes s
pub record LampClaims (d : Device) (s : List ℕ) : Type 0 where
  pub steps : StepClaims (lamp_step d s)
  pub runs : (n : ℕ) → verdict d s ≡ Ok n → (ys : List (List ℕ)) → RunClaims lamp_cap (continuous_pilots d (plan_of s)) d.subcarriers (lamp_step d s) ys
