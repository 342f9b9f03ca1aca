-- Why a subcarrier has its role at a phase (document 02, Req 08, which calls it the ground of the role). Assumes nothing.
use Rattle.std.specs.Prelude.{ℕ, ◌+◌, ◌-◌, Bool, true, false, ◌&&◌, List, [], ◌∷◌, ltb, Ok, Err, unwrap_or}
use Rattle.counting.specs.Search.{pick, lowest}
use Rattle.rules.specs.declared.Device.{Device}
use Rattle.rules.specs.declared.Role.{Role}
use Rattle.rules.specs.declared.Role.TheVariants.{Excluded, Plc, Continuous, Scattered, Data}
use Rattle.rules.specs.declared.Reason.{Reason}
use Rattle.rules.specs.declared.Reason.TheVariants.{ExcludedBy, PlcBy, PilotBelow, PilotAbove, PilotBy, ScatteredOnly, DataBut}
use Rattle.rules.specs.Refusals.{RoleAnswer, WhyAnswer}
use Rattle.rules.specs.Device.{phases}
use Rattle.rules.specs.Plan.{Entry, plan_of, chain, is_range, is_pilot}
use Rattle.rules.specs.Bands.{covers}
use Rattle.rules.specs.Roles.{one_of, predefined, names, role}
use Rattle.rules.specs.Answers.{role_answer}
use Rattle.frame.specs.Counted.{is_scattered}

-- "the record that excludes it": of kind 2, and its range covers k
abbrev pub excludes : ℕ → Entry → Bool
excludes k e = is_range e && covers k e

-- "or makes it a pilot": of kind 3, and it names k
abbrev pub makes_pilot : ℕ → Entry → Bool
makes_pilot k e = is_pilot e && names k e

-- the index of the first of some entries that passes; 0 where none does
unfoldable pub first_index : (Entry → Bool) → List Entry → ℕ
first_index t [] = 0
first_index t (e ∷ es) = elim (t e) [ true ↦ e.index | false ↦ first_index t es ]

-- "the first such on the chain"
unfoldable pub first_record : (Entry → Bool) → List ℕ → ℕ
first_record t s = first_index t (chain s)

module _ (d : Device) (s : List ℕ) (k : ℕ) where
  -- "the predefined distance": below L, or above the last PLC subcarrier
  unfoldable pub distance_reason : Reason
  distance_reason = pick (ltb k (plan_of s).plc) (PilotBelow ((plan_of s).plc - k)) (PilotAbove (k - ((plan_of s).plc + d.plc_width - 1)))

  -- a continuous pilot is predefined, or made by a record
  unfoldable pub pilot_reason : Reason
  pilot_reason = pick (one_of k (predefined d (plan_of s).plc)) distance_reason (PilotBy (first_record (makes_pilot k) s))

  -- "the one phase at which a scattered pilot stands there": that there is one, and no other, is claimed (Claims)
  unfoldable pub scattered_phase : ℕ
  scattered_phase = unwrap_or (lowest (λ q. is_scattered (role d (plan_of s) q k)) phases) 0

  -- the role at phase j with its reason; "record 0 for the PLC"
  unfoldable pub with_reason : ℕ → Role → Reason
  with_reason j Excluded = ExcludedBy (first_record (excludes k) s)
  with_reason j Plc = PlcBy 0
  with_reason j Continuous = pilot_reason
  with_reason j Scattered = ScatteredOnly j
  with_reason j Data = DataBut scattered_phase

  -- the answer of `why`, for subcarrier k at phase j: refused as `role` is, by 1 to 15, then 16
  unfoldable pub why_answer : ℕ → WhyAnswer
  why_answer j = elim (role_answer d s k j) [ Ok r ↦ Ok (with_reason j r) | Err r ↦ Err r ]

-- the role that has this reason
abbrev pub role_of : Reason → Role
role_of (ExcludedBy i) = Excluded
role_of (PlcBy i) = Plc
role_of (PilotBelow x) = Continuous
role_of (PilotAbove x) = Continuous
role_of (PilotBy i) = Continuous
role_of (ScatteredOnly q) = Scattered
role_of (DataBut q) = Data

-- the role that an answer names, or its refusal
abbrev pub named : WhyAnswer → RoleAnswer
named (Ok reason) = Ok (role_of reason)
named (Err r) = Err r
