-- That the reason is true (document 02, Req 08: "The ground is proved true: that record covers it, and no earlier one on the chain does").
-- Statements only. Assumes nothing.
use Rattle.std.specs.Prelude.{ℕ, ◌+◌, ◌-◌, ◌<◌, ◌≡◌, Bool, true, false, ◌&&◌, List, ◌∷◌, ◌++◌, leb, ltb, Ok, IsOkAnd}
use Rattle.rules.specs.declared.Device.{Device}
use Rattle.rules.specs.declared.Role.TheVariants.{Scattered, Data}
use Rattle.rules.specs.declared.Reason.{Reason}
use Rattle.rules.specs.declared.Reason.TheVariants.{ExcludedBy, PlcBy, PilotBelow, PilotAbove, PilotBy, ScatteredOnly, DataBut}
use Rattle.rules.specs.Device.{phases}
use Rattle.rules.specs.Plan.{Entry, plan_of, chain, entry, is_plc}
use Rattle.rules.specs.Bands.{any}
use Rattle.rules.specs.Roles.{one_of, role}
use Rattle.rules.specs.Grounds.{verdict}
use Rattle.rules.specs.Answers.{role_answer}
use Rattle.reasons.specs.Reasons.{excludes, makes_pilot, why_answer, named}

-- a record that puts the PLC on k: of kind 1, and k is one of the PLC's subcarriers from its first number on
abbrev pub puts_plc : Device → ℕ → Entry → Bool
puts_plc d k e = is_plc e && (leb e.low k && ltb k (e.low + d.plc_width))

-- record i stands among some entries and passes the test, and no earlier one does
pub record FirstOn (s : List ℕ) (t : Entry → Bool) (es : List Entry) (i : ℕ) : Type 0 where
  pub earlier : List Entry
  pub later : List Entry
  pub stands : es ≡ earlier ++ entry s i ∷ later
  pub passes : t (entry s i) ≡ true
  pub none : any t earlier ≡ false

-- q is the one phase of 128 at which subcarrier k has the role scattered; at each other it has the role data
pub record OnePhase (d : Device) (s : List ℕ) (k q : ℕ) : Type 0 where
  pub phase : q < phases
  pub scattered : role d (plan_of s) q k ≡ Scattered
  pub only : (j : ℕ) → j < phases → role d (plan_of s) j k ≡ Scattered → j ≡ q
  pub else_data : (j : ℕ) → j < phases → (j ≡ q → ⊥) → role d (plan_of s) j k ≡ Data

-- What each reason says of subcarrier k at phase j: the record is the first on the chain that covers or names it, for the PLC record 0; the
-- distance is one of the four and leads to k; the phase is the one and only.
abbrev pub Holds : Device → List ℕ → ℕ → ℕ → Reason → Type 0
Holds d s k j (ExcludedBy i) = FirstOn s (excludes k) (chain s) i
Holds d s k j (PlcBy i) = (i ≡ 0) × FirstOn s (puts_plc d k) (chain s) i
Holds d s k j (PilotBelow x) = (one_of x d.distances ≡ true) × (k + x ≡ (plan_of s).plc)
Holds d s k j (PilotAbove x) = (one_of x d.distances ≡ true) × (k ≡ (plan_of s).plc + d.plc_width - 1 + x)
Holds d s k j (PilotBy i) = FirstOn s (makes_pilot k) (chain s) i
Holds d s k j (ScatteredOnly q) = (q ≡ j) × OnePhase d s k q
Holds d s k j (DataBut q) = (q ≡ j → ⊥) × OnePhase d s k q

pub record WhyClaims (d : Device) (s : List ℕ) (k j : ℕ) : Type 0 where
  -- the role it names is the one that `role` answers, and it is refused exactly as `role` is
  pub same_role : named (why_answer d s k j) ≡ role_answer d s k j
  -- of an accepted plan, a subcarrier and a phase in their ranges a reason is given, and it is true
  pub true_reason : (n : ℕ) → verdict d s ≡ Ok n → k < d.subcarriers → j < phases → IsOkAnd (why_answer d s k j) (Holds d s k j)
